-- An entry of one caller leaves what is told of each other caller. No induction.
use Rattle.bus_laws.proofs.Cited.{◌≡◌, ℕ, Bool, cond, List, Option, Some, None, refl, ◌∙◌, ap, End, Entry, Reply, Cut, BoardView, Asks, Act}
use Rattle.bus_laws.proofs.Cited.{Take, Free, Send, Shift, Settle, Passed, Sent, Lined, Note, WalkTree, is_over, first_act, first_note}
use Rattle.bus_laws.proofs.Cited.{rest_of, caller_of, cut_told, Now, begun, current, step, sent_by, lined_by, got_after, CallerTold}
use Rattle.i2c_base.specs.declared.entry.Entry.TheVariants as entry
use Rattle.bus_laws.proofs.past.StandsStep.{at_other}
use Rattle.bus_laws.proofs.past.Asked.{sent_settled, lined_settled}

-- what a message leaves of what another has read
sent_got : (b : BoardView) (n : Now) (d : ℕ) (o : Option Act) (note : Note) (reading : Bool) (bytes : List ℕ) (e : End) (c : ℕ)
    → (c ≡ d → ⊥)
    → (sent_by b n d o note reading bytes e).got c ≡ n.got c
sent_got b n d None note reading bytes e c other = refl
sent_got b n d (Some (Take l)) note reading bytes e c other = refl
sent_got b n d (Some (Free l)) note reading bytes e c other = refl
sent_got b n d (Some (Send job left)) note reading bytes e c other = at_other n.got d (got_after job reading bytes (n.got d)) c other
sent_got b n d (Some (Shift job)) note reading bytes e c other = refl
sent_got b n d (Some (Settle v)) note reading bytes e c other = refl

lined_got : (b : BoardView) (n : Now) (o : Option Act) (note : Note) (failed : Bool) (c : ℕ) → (lined_by b n o note failed).got c ≡ n.got c
lined_got b n None note failed c = refl
lined_got b n (Some (Take l)) note failed c = refl
lined_got b n (Some (Free l)) note failed c = refl
lined_got b n (Some (Send job left)) note failed c = refl
lined_got b n (Some (Shift job)) note failed c = refl
lined_got b n (Some (Settle v)) note failed c = refl

-- of a caller that isn't the entry's
pub record IsUntouched (n m : Now) (c : ℕ) : Type 0 where
  pub walks : m.walk c ≡ n.walk c
  pub settles : m.settled c ≡ n.settled c
  pub reads : m.got c ≡ n.got c
  pub cuts : m.cut c ≡ n.cut c

pub entry-elsewhere : (b : BoardView) (asks : Asks) (n : Now) (e : Entry) (c : ℕ) → (c ≡ caller_of e → ⊥)
    → IsUntouched n (step b asks n e) c
entry-elsewhere b asks n (entry.Take d l) c other =
    record {
      walks = at_other n.walk d (rest_of (current b asks n d) Passed) c other;
      settles = refl;
      reads = refl;
      cuts = at_other n.cut d (cut_told (entry.Take d l)) c other;
    }
entry-elsewhere b asks n (entry.Free d l) c other =
    record {
      walks = at_other n.walk d (rest_of (current b asks n d) Passed) c other;
      settles = refl;
      reads = refl;
      cuts = at_other n.cut d (cut_told (entry.Free d l)) c other;
    }
entry-elsewhere b asks n (entry.Message d bus why part parts addr reading bytes heard e) c other =
    let act : Option Act = first_act (current b asks n d) in
    let note : Note = first_note (current b asks n d) in
    record {
      walks = at_other n.walk d (rest_of (current b asks n d) (Sent e bytes)) c other;
      settles = sent_settled b n d act note reading bytes e c;
      reads = sent_got b n d act note reading bytes e c other;
      cuts = at_other n.cut d (cut_told (entry.Message d bus why part parts addr reading bytes heard e)) c other;
    }
entry-elsewhere b asks n (entry.Line d mux level failed) c other =
    let act : Option Act = first_act (current b asks n d) in
    let note : Note = first_note (current b asks n d) in
    record {
      walks = at_other n.walk d (rest_of (current b asks n d) (Lined failed)) c other;
      settles = lined_settled b n act note failed c;
      reads = lined_got b n act note failed c;
      cuts = at_other n.cut d (cut_told (entry.Line d mux level failed)) c other;
    }
entry-elsewhere b asks n (entry.Settle d r at) c other =
    record {
      walks = at_other n.walk d (rest_of (current b asks n d) Passed) c other;
      settles = at_other n.settled d _ c other;
      reads = at_other n.got d _ c other;
      cuts = at_other n.cut d (cut_told (entry.Settle d r at)) c other;
    }

pub others-stay : (b : BoardView) (asks : Asks) (n : Now) (e : Entry) (c : ℕ) (w : WalkTree) (replies : List Reply) (got : List ℕ)
    (cut : Cut) → (c ≡ caller_of e → ⊥)
    → CallerTold b asks n c w replies got cut → CallerTold b asks (step b asks n e) c w replies got cut
others-stay b asks n e c w replies got cut other told =
    let same : IsUntouched n (step b asks n e) c = entry-elsewhere b asks n e c other in
    record {
      walk = ap (λ (x : WalkTree). cond (is_over x) (begun b (asks c ((step b asks n e).settled c))) x) same.walks
          ∙ ap (λ (rs : List Reply). cond (is_over (n.walk c)) (begun b (asks c rs)) (n.walk c)) same.settles ∙ told.walk;
      settled = same.settles ∙ told.settled;
      got_is = same.reads ∙ told.got_is;
      cut_is = same.cuts ∙ told.cut_is;
    }
