-- The replies to a command's transfers, as they come, and that each is one that its transfer may get. No induction.
use Rattle.std.proofs.Common.{◌≡◌, ℕ, ◌<◌, ◌≤◌, nat_le, true, false, List, [], ◌∷◌, ◌++◌, arith, refl, sym, ap, subst, append_assoc, append-nil}
use Rattle.std.proofs.lemmas.Bool.Decides.{nat_tests}
use Rattle.i2c_base.specs.Board.{BoardView}
use Rattle.i2c_base.specs.declared.reply.Reply.{Reply}
use Rattle.i2c_base.specs.Fitting.{Fits}
use Rattle.i2c_spec.specs.Targets.{TargetState}
use Rattle.i2c_spec.specs.Flat.{FlatTold}
use Rattle.tools.specs.Dialogues.{AreReplies, Dialogue, is_over, next_place}
use Rattle.i2c_session.specs.Sessions.{Talks, told_at}
use Rattle.i2c_session.proofs.FlatFits.{flat-fits}

-- after these replies the conversation has come to a place and these devices: whatever is said from there on is said behind them
pub record HasComeTo (b : BoardView) (d : Dialogue) (states : List TargetState) (said : List Reply) (place : ℕ) (now : List TargetState) : Type 0 where
  pub talks : (rest : List Reply) (ends : List TargetState) → Talks b d place now rest ends → Talks b d 0 states (said ++ rest) ends
  pub fit : (rest : List Reply) → AreReplies d place rest → AreReplies d 0 (said ++ rest)

pub come-none : (b : BoardView) (d : Dialogue) (states : List TargetState) → HasComeTo b d states [] 0 states
come-none b d states = record { talks = λ rest ends t. t; fit = λ rest f. f }

-- one reply more
pub come-more : (b : BoardView) (d : Dialogue) (states now next : List TargetState) (said : List Reply) (place after : ℕ) (r : Reply)
    → HasComeTo b d states said place now → is_over d place ≡ false → (let told : FlatTold = record { reply = r; states = next } in told ≡ told_at b d place now)
    → after ≡ next_place d place r → HasComeTo b d states (said ++ r ∷ []) after next
come-more b d states now next said place after r come more told goes =
    let reply : r ≡ (told_at b d place now).reply = ap (λ (t : FlatTold). t.reply) told in
    let left : next ≡ (told_at b d place now).states = ap (λ (t : FlatTold). t.states) told in
    record {
      talks = λ rest ends t.
          subst (λ (rs : List Reply). Talks b d 0 states rs ends) (sym (append_assoc said (r ∷ []) rest))
          (come.talks (r ∷ rest) ends (
            more,
            reply,
            subst (λ (k : ℕ). Talks b d k (told_at b d place now).states rest ends) goes
                (subst (λ (ss : List TargetState). Talks b d after ss rest ends) left t),
          ));
      fit = λ rest f.
          subst (λ (rs : List Reply). AreReplies d 0 rs) (sym (append_assoc said (r ∷ []) rest))
          (come.fit (r ∷ rest) (
            subst (λ (x : Reply). Fits (d.at place) x) (sym reply) (flat-fits b now (d.at place)),
            subst (λ (k : ℕ). AreReplies d k rest) goes f,
          ));
    }

-- .. and the end
pub come-over : (b : BoardView) (d : Dialogue) (states now : List TargetState) (said : List Reply) (place : ℕ)
    → HasComeTo b d states said place now → is_over d place ≡ true → Talks b d 0 states said now × AreReplies d 0 said
come-over b d states now said place come over = (
  subst (λ (rs : List Reply). Talks b d 0 states rs now) (append-nil said) (come.talks [] now (over, refl)),
  subst (λ (rs : List Reply). AreReplies d 0 rs) (append-nil said) (come.fit [] tt),
)

-- a place is one of so many, or past them
pub over_at : (places place told : ℕ) → told ≡ places → place < told → nat_le places place ≡ false
over_at places place told is low = grind (arith, nat_tests, is, low)

pub past_all : (places place told : ℕ) → told ≡ places → told ≤ place → nat_le places place ≡ true
past_all places place told is high = grind (arith, nat_tests, is, high)
