-- A message of a caller's keeps what stands of the devices: it is said in the flat world as in the world of its root, and
-- where the transfer ends with it the flat world has done it whole.
use Rattle.flat_laws.proofs.Cited.{◌≡◌, ℕ, zero, suc, ◌-◌, ◌<◌, Bool, true, false, cond, List, [], ◌∷◌, ◌++◌, length, Option, Some, None}
use Rattle.flat_laws.proofs.Cited.{eqb, refl, sym, ◌∙◌, ap, subst, inl, inr, arith, slice_get, eqb_tells, End, Entry, Purpose, Reply, Cut}
use Rattle.flat_laws.proofs.Cited.{BoardView, AreBytes, TransferView, hops, root_of, IsTree, IsPlainBoard, TargetState, MessageView}
use Rattle.flat_laws.proofs.Cited.{messages_of, World, TalkTold, world_listener, talk, is_good, FlatTold, idle, refusal, granted_on}
use Rattle.flat_laws.proofs.Cited.{block_limit, errno_of, or_done, flat, Asks, History, Job, Call, Act, Send, Settle, Sent, WalkTree, goes}
use Rattle.flat_laws.proofs.Cited.{verdict_of, message_of, first_act, first_note, rest_of, MessageEntry, message_cut, cut_told, Now, begun}
use Rattle.flat_laws.proofs.Cited.{current, now, is_on, is_due, sent, with_due, moved, talk_of, cut_of, inside_after, got_after, IsNext}
use Rattle.flat_laws.proofs.Cited.{IsStepwise, TellsMessage, LinesAreLocked, AsksForMessages, AsksWithinLimits, IsOf, Same, LeadsTo}
use Rattle.flat_laws.proofs.Cited.{EndsTransfer, at_same, at_other, message_entry, length-messages, goes_on_from, call_goes, other_caller}
use Rattle.flat_laws.proofs.Cited.{own_call, past-inside, LetThrough, same_Some, ne_eqb}
use Rattle.i2c_base.specs.declared.entry.End.TheVariants as end
use Rattle.i2c_base.specs.declared.entry.Purpose.TheVariants as purpose
use Rattle.bus_laws.specs.Settles.{CallGoesOn}
use Rattle.flat_laws.proofs.past.First.{call_first, past-stage}
use Rattle.bus_laws.proofs.walk.VerdictLaw.{call-clear}
use Rattle.bus_laws.proofs.walk.MessageFacts.{message-bytes, nth-next, part-next}
use Rattle.bus_laws.proofs.device.Stay.{same-elsewhere}
use Rattle.flat_laws.proofs.device.Flat.{flat-elsewhere}
use Rattle.flat_laws.proofs.device.Said.{IsSaid, reply-is, said-more, left_states, said-whole, same-whole}
use Rattle.flat_laws.proofs.device.Stand.{IsDueWith, IsInsideWith, DevicesStand, inside_stays}

-- a message of a caller's is followed by the next where it went through
goes_good : (bus : ℕ) (ms : List MessageView) (left : ℕ) (e : End) (bytes : List ℕ)
    → is_on (goes (Call bus ms) left (Sent e bytes)) ≡ is_good e
goes_good bus ms left end.Ok bytes = refl
goes_good bus ms left end.Nack bytes = refl
goes_good bus ms left end.Slow bytes = refl
goes_good bus ms left end.Refused bytes = refl
goes_good bus ms left end.Proto bytes = refl
goes_good bus ms left (end.Cut q) bytes = refl

-- the first message of a transfer
said_first : (b : BoardView) (ahead : List TargetState) (t : TransferView) (w : World) (got : List ℕ) (left : ℕ) → 0 < length t.msgs
    → left ≡ length (messages_of t) - 1 → got ≡ []
    → Same b (root_of b t.bus) w (idle ahead) → IsSaid b ahead t w got left
said_first b ahead t w got left some at none same = by (messages_of t) refl
  where
    by : (ms : List MessageView) → messages_of t ≡ ms → IsSaid b ahead t w got left
    by [] all =
        absurd (let e : length (messages_of t) ≡ length t.msgs = length-messages t.msgs t.out in
        let f : length (messages_of t) ≡ 0 = ap (λ (xs : List MessageView). length xs) all in omega (arith, e, f, some))
    by (m ∷ ms) all =
        record {
          before = [];
          next = m;
          rest = ms;
          all = all;
          so_many = (let f : length (messages_of t) ≡ suc (length ms) = ap (λ (xs : List MessageView). length xs) all in
              omega (arith, at, f));
          good = refl;
          read = none;
          same = same;
        }

module _ (b : BoardView) (tree : IsTree b) (plain : IsPlainBoard b) (lines : LinesAreLocked b) (asks : Asks) (some : AsksForMessages asks)
    (limits : AsksWithinLimits asks) (callers : ℕ)
    (past : List Entry) (steps : IsStepwise b callers asks past) (h : History) (s : DevicesStand b asks (now b asks past) h) where
  abbrev n : Now
  n = now b asks past

  -- A MESSAGE OF THE CALLER'S
  module _ (d : ℕ) (t : TransferView) (asked : asks d (n.settled d) ≡ Some t) (accepted : refusal b t ≡ None) (left : ℕ)
      (none : n.due ≡ None)
      (next : IsNext b asks n d (Send (Call t.bus (messages_of t)) left))
      (leads : LeadsTo (n.worlds (root_of b t.bus)) (message_of b (Call t.bus (messages_of t)) left).addr
      (granted_on b t.bus t.force (message_of b (Call t.bus (messages_of t)) left).addr))
      (through : LetThrough b (hops b t.bus))
      (x : MessageEntry) (tells : TellsMessage b n (Call t.bus (messages_of t)) left x) where
    abbrev part : ℕ
    part = x.part

    abbrev bytes : List ℕ
    bytes = x.bytes

    abbrev e : End
    e = x.end

    abbrev root : ℕ
    root = root_of b t.bus

    abbrev job : Job
    job = Call t.bus (messages_of t)

    abbrev m : Now
    m = with_due d (moved b asks n (sent b n d job left (first_note (current b asks n d)) x.reading bytes e (talk_of b n job left e)) d
        (message_entry x) (Sent e bytes))

    said_now : IsSaid b s.ahead t (n.worlds root) (n.got d) left
    said_now = by_inside (n.inside root) refl
      where
        by_inside : (o : Option ℕ) → n.inside root ≡ o → IsSaid b s.ahead t (n.worlds root) (n.got d) left
        by_inside None out =
            elim (call_first b tree plain lines asks some callers past steps
            (past-stage b tree plain lines asks some callers past steps) d t.bus (messages_of t) left none next) [
              | inl is ↦ absurd (let f : None ≡ Some d = sym out ∙ is in cc)
              | inr f ↦ said_first b s.ahead t (n.worlds root) (n.got d) left (some d (n.settled d) t asked) f.0 f.1 (s.rest root out)
            ]
        by_inside (Some c) is =
            let own = own_call b tree plain lines asks some callers past steps c root d job left is next refl in
            let i : IsInsideWith b asks n s.ahead root d = subst (λ (k : ℕ). IsInsideWith b asks n s.ahead root k) (sym own.0)
            (s.said root c is) in
            let same : i.whose ≡ t = same_Some i.whose t (sym i.asked ∙ asked) in
            let act : Send job left ≡ Send (Call i.whose.bus (messages_of i.whose)) i.left =
            same_Some (Send job left) (Send (Call i.whose.bus (messages_of i.whose)) i.left)
            (sym next ∙ goes_on_from n.slot (begun b (asks d (n.settled d))) (n.walk d)
            (Send (Call i.whose.bus (messages_of i.whose)) i.left) i.sends) in
            let as_many : i.left ≡ left = (let f : Send job left ≡ Send (Call i.whose.bus (messages_of i.whose)) i.left = act in cc) in
            subst (λ (k : ℕ). IsSaid b s.ahead t (n.worlds root) (n.got d) k) as_many
            (subst (λ (y : TransferView). IsSaid b s.ahead y (n.worlds root) (n.got d) i.left) same i.said)

    next_is : message_of b job left ≡ said_now.next
    next_is = nth-next (messages_of t) said_now.before said_now.next said_now.rest left said_now.all said_now.so_many

    leads_next : LeadsTo (n.worlds root) said_now.next.addr (granted_on b t.bus t.force said_now.next.addr)
    leads_next = subst (λ (y : MessageView). LeadsTo (n.worlds root) y.addr (granted_on b t.bus t.force y.addr)) next_is leads

    fits : AreBytes said_now.next.bytes
    fits = message-bytes t.msgs t.out (limits d (n.settled d) t asked).bytes said_now.before said_now.next said_now.rest said_now.all

    at_part : part - 1 ≡ length said_now.before
    at_part = ap (λ (k : ℕ). k - 1) tells.as_part
        ∙ part-next (messages_of t) said_now.before said_now.next said_now.rest left said_now.all said_now.so_many

    abbrev told : TalkTold World
    told = talk world_listener (block_limit b) (n.worlds root) said_now.next (eqb left 0) (cut_of e)

    talk_is : talk_of b n job left e ≡ told
    talk_is = ap (λ (y : MessageView). talk world_listener (block_limit b) (n.worlds root) y (eqb left 0) (cut_of e)) next_is

    end_told : e ≡ told.end
    end_told = tells.end_told ∙ ap (λ (y : TalkTold World). y.end) talk_is

    bytes_told : bytes ≡ told.bytes
    bytes_told = tells.bytes_told ∙ ap (λ (y : TalkTold World). y.bytes) talk_is

    got_now : m.got d ≡ cond said_now.next.reading (n.got d ++ bytes) (n.got d)
    got_now =
        at_same n.got d (got_after job x.reading bytes (n.got d))
        ∙ ap (λ (r : Bool). cond r (n.got d ++ bytes) (n.got d)) (tells.in_direction ∙ ap (λ (y : MessageView). y.reading) next_is)

    world_now : m.worlds root ≡ told.now
    world_now = at_same n.worlds root (talk_of b n job left e).now ∙ ap (λ (y : TalkTold World). y.now) talk_is

    world_other : (r : ℕ) → (r ≡ root → ⊥) → m.worlds r ≡ n.worlds r
    world_other r ne = at_other n.worlds root (talk_of b n job left e).now r ne

    inside_other : (r : ℕ) → (r ≡ root → ⊥) → m.inside r ≡ n.inside r
    inside_other r ne = at_other n.inside root (inside_after job left (Sent e bytes) d (n.inside root)) r ne

    -- who is inside another root is another caller, and stays
    other_said : (ahead : List TargetState) → ((r k : ℕ) → (r ≡ root → ⊥) → IsOf b r k → slice_get s.ahead k ≡ slice_get ahead k)
        → (r c : ℕ) → (r ≡ root → ⊥) → m.inside r ≡ Some c → IsInsideWith b asks m ahead r c
    other_said ahead same r c ne is =
        let before : n.inside r ≡ Some c = sym (inside_other r ne) ∙ is in
        let other : c ≡ d → ⊥ = other_caller b tree plain lines asks some callers past steps
        (past-inside b tree plain lines asks some callers past steps) r c d (Send job left) before next
        (λ s2 ms k f root_is. ne (sym root_is
        ∙ ap (λ (i : ℕ). root_of b i) (let g : Send job left ≡ Send (Call s2 ms) k = f in let i : s2 ≡ t.bus = cc in i))) in
        inside_stays b asks tree n m s.ahead ahead r c (s.said r c before)
        (at_other n.walk d (rest_of (current b asks n d) (Sent e bytes)) c other) refl
        (at_other n.got d (got_after job x.reading bytes (n.got d)) c other) (world_other r ne) (λ k own. same r k ne own)

    goes_next : CallGoesOn t.bus (messages_of t) left (Sent e bytes) (rest_of (current b asks n d) (Sent e bytes))
    goes_next = call_goes b tree plain lines asks some callers past steps d t.bus (messages_of t) left e bytes next

    walk_now : m.walk d ≡ rest_of (current b asks n d) (Sent e bytes)
    walk_now = at_same n.walk d (rest_of (current b asks n d) (Sent e bytes))

    -- it goes on
    call_more : (l : ℕ) → left ≡ suc l → is_good e ≡ true → DevicesStand b asks m h
    call_more l is good =
        record {
          ahead = s.ahead;
          replies = s.replies;
          free = λ z. s.free none;
          due = λ c z. absurd (let f : None ≡ Some c = sym (ap (λ (o : Option Act). cond (is_due o) (Some d) None) sends) ∙ z in cc);
          rest = λ r out. elim (eqb_tells r root) [
            | inl same ↦ absurd (let f : None ≡ Some d = sym out ∙ ap (λ (i : ℕ). m.inside i) same.1 ∙ inside_here in cc)
            | inr ne ↦ subst (λ (w : World). Same b r w (idle s.ahead)) (sym (world_other r ne.1))
                (s.rest r (sym (inside_other r ne.1) ∙ out))
          ];
          said = λ r c is_in. elim (eqb_tells r root) [
            | inl same ↦ subst (λ (i : ℕ). IsInsideWith b asks m s.ahead i c) (sym same.1)
                (subst (λ (i : ℕ). IsInsideWith b asks m s.ahead root i)
                (same_Some d c (sym inside_here ∙ ap (λ (i : ℕ). m.inside i) (sym same.1) ∙ is_in)) said_here)
            | inr ne ↦ other_said s.ahead (λ k i apart own. refl) r c ne.1 is_in
          ];
        }
      where
        inside_here : m.inside root ≡ Some d
        inside_here =
            at_same n.inside root (inside_after job left (Sent e bytes) d (n.inside root))
            ∙ ap (λ (z : Bool). cond z None (cond (is_on (goes job left (Sent e bytes))) (Some d) None))
            (ne_eqb left 0 (λ f. absurd (omega (arith, f, is))))
            ∙ ap (λ (z : Bool). cond z (Some d) None) (goes_good t.bus (messages_of t) left e bytes ∙ good)

        sends : first_act (m.walk d) ≡ Some (Send job l)
        sends =
            ap (λ (w : WalkTree). first_act w) walk_now
            ∙ subst (λ (k : ℕ). CallGoesOn t.bus (messages_of t) k (Sent e bytes) (rest_of (current b asks n d) (Sent e bytes))) is
            goes_next
            ∙ ap (λ (z : Bool). Some (cond z (Send job l) (Settle (verdict_of job (suc l) (Sent e bytes)))))
            (goes_good t.bus (messages_of t) l e bytes ∙ good)

        said_here : IsInsideWith b asks m s.ahead root d
        said_here =
            record {
              whose = t;
              asked = asked;
              root = refl;
              left = l;
              sends = sends;
              said = subst (λ (w : World). IsSaid b s.ahead t w (m.got d) l) (sym world_now)
                  (subst (λ (xs : List ℕ). IsSaid b s.ahead t told.now xs l) (sym got_now)
                  (said-more b s.ahead t (n.worlds root)
                  (n.got d) left said_now leads_next fits part at_part e bytes end_told bytes_told l is good));
            }

    -- the transfer ends with it: its settle is due
    module _ (over : EndsTransfer (eqb left 0) e) where
      abbrev after : List TargetState
      after = left_states b s.ahead t (n.worlds root) (n.got d) left said_now leads_next fits part at_part e bytes end_told bytes_told over

      abbrev now_got : List ℕ
      now_got = cond said_now.next.reading (n.got d ++ bytes) (n.got d)

      inside_none : m.inside root ≡ None
      inside_none =
          at_same n.inside root (inside_after job left (Sent e bytes) d (n.inside root))
          ∙ elim over [
            | inl last ↦ ap (λ (z : Bool). cond z None (cond (is_on (goes job left (Sent e bytes))) (Some d) None)) last
            | inr bad ↦ ap (λ (z : Bool). cond (eqb left 0) None (cond z (Some d) None)) (goes_good t.bus (messages_of t) left e bytes
                ∙ bad) ∙ both (eqb left 0) None
          ]
        where
          both : (z : Bool) (o : Option ℕ) → cond z o o ≡ o
          both true o = refl
          both false o = refl

      settles_here : first_act (m.walk d) ≡ Some (Settle (verdict_of job left (Sent e bytes)))
      settles_here = ap (λ (w : WalkTree). first_act w) walk_now ∙ by left goes_next over
        where
          by : (k : ℕ) → CallGoesOn t.bus (messages_of t) k (Sent e bytes) (rest_of (current b asks n d) (Sent e bytes))
              → EndsTransfer (eqb k 0) e
              → first_act (rest_of (current b asks n d) (Sent e bytes)) ≡ Some (Settle (verdict_of job k (Sent e bytes)))
          by zero goes_on ends = goes_on
          by (suc l) goes_on ends =
              elim ends [
                | inl last ↦ absurd (let f : false ≡ true = sym (ne_eqb (suc l) 0 (λ f. absurd (omega (arith, f)))) ∙ last in cc)
                | inr bad ↦ goes_on ∙ ap (λ (z : Bool). Some (cond z (Send job l) (Settle (verdict_of job (suc l) (Sent e bytes)))))
                    (goes_good t.bus (messages_of t) l e bytes ∙ bad)
              ]

      flat_is : flat b s.ahead t (message_cut purpose.Call part e) ≡ record { reply = or_done (errno_of e) t now_got; states = after }
      flat_is =
          said-whole b s.ahead t (n.worlds root) (n.got d) left said_now leads_next fits part at_part e bytes end_told bytes_told over
          (call-clear b t accepted through part e)

      due_here : IsDueWith b asks m h after d
      due_here =
          record {
            whose = t;
            asked = asked;
            verdict = verdict_of job left (Sent e bytes);
            settles = settles_here;
            told = ap (λ (y : Cut). flat b h.states t y) (at_same n.cut d (cut_told (message_entry x))
                ∙ ap (λ (p : Purpose). message_cut p part e) tells.for_purpose)
                ∙ ap (λ (xs : List TargetState). flat b xs t (message_cut purpose.Call part e)) (sym (s.free none))
                ∙ flat_is
                ∙ ap (λ (xs : List ℕ). told_by (or_done (errno_of e) t xs) after) (sym got_now)
                ∙ ap (λ (r : Reply). told_by r after) (reply-is t t.bus (messages_of t) left e bytes (m.got d));
          }
        where
          told_by : Reply → List TargetState → FlatTold
          told_by r xs = record { reply = r; states = xs }

      elsewhere : (r k : ℕ) → (r ≡ root → ⊥) → IsOf b r k → slice_get s.ahead k ≡ slice_get after k
      elsewhere r k ne own =
          sym (flat-elsewhere b tree s.ahead t (message_cut purpose.Call part e) k (λ here. ne (sym own ∙ here)))
          ∙ ap (λ (y : FlatTold). slice_get y.states k) flat_is

      call_ends : DevicesStand b asks m h
      call_ends =
          record {
            ahead = after;
            replies = s.replies;
            free = λ z. absurd (let f : Some d ≡ None = sym (ap (λ (o : Option Act). cond (is_due o) (Some d) None) settles_here) ∙ z in
                cc);
            due = λ c z. subst (λ (i : ℕ). IsDueWith b asks m h after i)
                (same_Some d c (sym (ap (λ (o : Option Act). cond (is_due o) (Some d) None) settles_here) ∙ z)) due_here;
            rest = λ r out. elim (eqb_tells r root) [
              | inl same ↦ subst (λ (i : ℕ). Same b i (m.worlds i) (idle after)) (sym same.1)
                  (subst (λ (w : World). Same b root w (idle after)) (sym world_now)
                  (same-whole b s.ahead t (n.worlds root)
                  (n.got d) left said_now leads_next fits part at_part e bytes end_told bytes_told over))
              | inr ne ↦ same-elsewhere b r (m.worlds r) s.ahead after
                  (subst (λ (w : World). Same b r w (idle s.ahead)) (sym (world_other r ne.1)) (s.rest r (sym (inside_other r ne.1) ∙ out)))
                  (λ k own. sym (elsewhere r k ne.1 own))
            ];
            said = λ r c is. elim (eqb_tells r root) [
              | inl same ↦ absurd (let f : None ≡ Some c = sym inside_none ∙ ap (λ (i : ℕ). m.inside i) (sym same.1) ∙ is in cc)
              | inr ne ↦ other_said after elsewhere r c ne.1 is
            ];
          }

    pub call_stands : DevicesStand b asks m h
    call_stands = by left refl (is_good e) refl
      where
        by : (k : ℕ) → left ≡ k → (z : Bool) → is_good e ≡ z → DevicesStand b asks m h
        by zero last z good = call_ends (inl (ap (λ (i : ℕ). eqb i 0) last))
        by (suc l) is true good = call_more l is good
        by (suc l) is false bad = call_ends (inr bad)
