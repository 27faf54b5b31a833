-- What one step leaves of a transfer's walk, whatever it gives: what is left is of the same transfer, and settles it in
-- its place. No induction.
use Rattle.core_laws.proofs.Cited.{◌≡◌, ℕ, ◌<◌, ◌+◌, ◌-◌, zero, suc, Bool, true, false, List, [], ◌∷◌, length, Option, Some, None, refl}
use Rattle.core_laws.proofs.Cited.{sym, ◌∙◌, ap, subst, arith, ◌⊎◌, inl, inr, LockId, Errno, End, BoardView, TransferView, refusal}
use Rattle.core_laws.proofs.Cited.{MessageView, messages_of, IsTree, Hop, root_of, Job, Call, Select, SwitchOff, Off, Act, Take, Free, Send}
use Rattle.core_laws.proofs.Cited.{Shift, Settle, Passed, Sent, Lined, WalkTree, Ends, Then, Note, Slots, walk_by, seen, is_over, first_act}
use Rattle.core_laws.proofs.Cited.{rest_of, IsJobOf, IsCall, NoSettle, Settles, first_is, job-shifted, settles-sent, quiet-next}
use Rattle.core_laws.proofs.Cited.{call-goes-on, seen-first, length-messages, IsLeft, IsDecided}
use Rattle.i2c_base.specs.declared.entry.End.TheVariants as end
use Rattle.i2c_spec.specs.Tree.{hops}
use Rattle.bus_spec.specs.Walk.{is_line, job_outcome, verdict_of, decides}
use Rattle.bus_spec.specs.Grammar as grammar
use Rattle.bus_spec.specs.Grammar.{full}
use Rattle.bus_laws.specs.Calls.{CallsOf, FirstCalls}
use Rattle.bus_laws.specs.Jobs.{EachJob}
use Rattle.bus_laws.specs.Settles.{GoesOn, FollowsSend}
use Rattle.bus_laws.specs.Settles as one
use Rattle.i2c_base.specs.declared.errno.Errno.TheVariants as errno
use Rattle.bus_laws.proofs.walk.SettleLaw.{walk-settles, walk-starts}
use Rattle.bus_laws.proofs.walk.Calls.{walk-calls}
use Rattle.bus_laws.proofs.walk.First.{walk-first, first_seen}
use Rattle.bus_laws.proofs.past.Asked.{settles_seen}
use Rattle.bus_laws.proofs.walk.Jobs.{walk-stays}
use Rattle.bus_laws.proofs.walk.Next.{jobs-next, calls-next, call-sent, settles-taken, settles-freed, first-taken, first-freed}
use Rattle.bus_laws.proofs.walk.Next.{first-selected, first-switched-off, first-sent, settles-settled, what_follows}
use Rattle.core_laws.specs.Seats.{Counts}

-- a step that no look stands before
seen_act : (v : Slots) (w : WalkTree) (act : Act) → first_act w ≡ Some act → first_act (seen v w) ≡ Some act
seen_act v w act e = ap (λ (x : WalkTree). first_act x) (seen-first v w act e) ∙ e

-- it is the last message of the caller's, and went through
abbrev pub IsLastCall : Job → ℕ → End → Type 0
IsLastCall job left e = (bus : ℕ) × (ms : List MessageView) × (job ≡ Call bus ms) × (left ≡ 0) × (e ≡ end.Ok)

-- after a message its settle comes next, or the walk goes on
abbrev pub SettlesNext : BoardView → TransferView → Bool → Job → ℕ → End → WalkTree → Type 0
SettlesNext b t settled job left e w = (settled ≡ false) × (verdict : Option Errno) × IsDecided b t verdict w
    × (verdict ≡ None → IsLastCall job left e)

-- the one or the other
abbrev pub SendLeaves : BoardView → TransferView → Bool → ℕ → Job → ℕ → End → WalkTree → Type 0
SendLeaves b t settled sent job left e w = IsLeft b t settled sent w ⊎ SettlesNext b t settled job left e w

module _ (b : BoardView) (t : TransferView) (v : Slots) (w : WalkTree) (settled : Bool) (sent : ℕ) (is : IsLeft b t settled sent w) where
  -- where another step than a message of the caller's comes next, none of these was sent yet
  first_still : (act : Act) → first_act (seen v w) ≡ Some act
      → ((bus : ℕ) (ms : List MessageView) (left : ℕ) → act ≡ Send (Call bus ms) left → ⊥) → Counts w sent → FirstCalls w × (sent ≡ 0)
  first_still act first other counts =
      elim counts [
        | inl c ↦ absurd (other c.bus c.messages c.left
            (let f : Some act ≡ Some (Send (Call c.bus c.messages) c.left) = sym first
            ∙ seen_act v w (Send (Call c.bus c.messages) c.left) c.first in cc))
        | inr f ↦ f
      ]

  left-passed : (act : Act) → first_act (seen v w) ≡ Some act
      → ((bus : ℕ) (ms : List MessageView) (left : ℕ) → act ≡ Send (Call bus ms) left → ⊥)
      → NoSettle (rest_of (seen v w) Passed) × Settles settled (rest_of (seen v w) Passed)
      → (FirstCalls w → FirstCalls (rest_of (seen v w) Passed)) → IsLeft b t settled sent (rest_of (seen v w) Passed)
  left-passed act first other settles firsts = record {
    calls = calls-next b t v w is.calls act first Passed;
    settles = settles.1;
    jobs = jobs-next (IsJobOf b t) v w is.jobs act first Passed;
    quiet = settles.0;
    counts = λ e. (let f = first_still act first other (is.counts e) in inr (firsts f.0, f.1));
  }

  pub left-taken : (l : LockId) → first_act (seen v w) ≡ Some (Take l) → IsLeft b t settled sent (rest_of (seen v w) Passed)
  left-taken l first =
      left-passed (Take l) first (λ bus ms left x. let g : Take l ≡ Send (Call bus ms) left = x in cc)
      (settles-taken settled v w is.settles l first) (λ f. first-taken v w f l first)

  pub left-freed : (l : LockId) → first_act (seen v w) ≡ Some (Free l) → IsLeft b t settled sent (rest_of (seen v w) Passed)
  left-freed l first =
      left-passed (Free l) first (λ bus ms left x. let g : Free l ≡ Send (Call bus ms) left = x in cc)
      (settles-freed settled v w is.settles l first) (λ f. first-freed v w f l first)

  -- a message of the caller's: which one it is
  pub call-is : (bus : ℕ) (ms : List MessageView) (left : ℕ) → first_act (seen v w) ≡ Some (Send (Call bus ms) left)
      → (settled ≡ false) × IsCall b t bus ms × (sent + suc left ≡ length ms)
  call-is bus ms left first =
      let before : settled ≡ false = (settles-sent settled v w is.settles (Call bus ms) left first).0 in
      let call : IsCall b t bus ms = call-sent b t v w is.calls bus ms left first in
      let many : length ms ≡ length t.msgs = ap (λ (xs : List MessageView). length xs) call.same_messages
      ∙ length-messages t.msgs t.out in (
        before,
        call,
        elim (is.counts before) [
          | inl c ↦ (let same : Some (Send (Call bus ms) left) ≡ Some (Send (Call c.bus c.messages) c.left) = sym first
              ∙ seen_act v w (Send (Call c.bus c.messages) c.left) c.first in
              let lefts : left ≡ c.left = cc in
              let all : ms ≡ c.messages = cc in
              ap (λ (k : ℕ). sent + suc k) lefts ∙ c.count ∙ ap (λ (xs : List MessageView). length xs) (sym all))
          | inr f ↦ (let own : left ≡ length ms - 1 = first-sent v w f.0 bus ms left first in
              omega (arith, own, f.1, many, call.some_message))
        ],
      )

  module _ (job : Job) (left : ℕ) (first : first_act (seen v w) ≡ Some (Send job left)) (e : End) (bytes : List ℕ) where
    abbrev behind : WalkTree
    behind = rest_of (seen v w) (Sent e bytes)

    goes : (note : Note) × GoesOn note job left (Sent e bytes) behind × Settles settled behind
    goes = (settles-sent settled v w is.settles job left first).1 e bytes

    -- it settles next
    decided : FollowsSend job left e bytes behind → SettlesNext b t settled job left e behind
    decided f =
        let not_yet : settled ≡ false = (settles-settled settled behind goes.2 _ f.settles).0 in (
          not_yet,
          _,
          record {
            calls = calls-next b t v w is.calls (Send job left) first (Sent e bytes);
            settles = subst (λ (x : Bool). Settles x behind) not_yet goes.2;
            jobs = jobs-next (IsJobOf b t) v w is.jobs (Send job left) first (Sent e bytes);
            first = f.settles;
          },
          f.whole,
        )

    -- or not
    goes_quiet : (more : ℕ) → NoSettle behind → (settled ≡ false → Counts behind more) → IsLeft b t settled more behind
    goes_quiet more quiet counts =
        record {
          calls = calls-next b t v w is.calls (Send job left) first (Sent e bytes);
          settles = goes.2;
          jobs = jobs-next (IsJobOf b t) v w is.jobs (Send job left) first (Sent e bytes);
          quiet = quiet;
          counts = counts;
        }

  -- a control message
  pub select-leaves : (h : Hop) (left : ℕ) → first_act (seen v w) ≡ Some (Send (Select h) left) → (e : End) (bytes : List ℕ)
      → SendLeaves b t settled sent (Select h) left e (rest_of (seen v w) (Sent e bytes))
  select-leaves h left first e bytes =
      let goes = (settles-sent settled v w is.settles (Select h) left first).1 e bytes in
      elim (what_follows goes.0 (Select h) left e bytes (rest_of (seen v w) (Sent e bytes)) goes.1) [
        | inl quiet ↦ inl (goes_quiet (Select h) left first e bytes sent quiet
            (λ x. let f = first_still (Send (Select h) left) first (λ bus ms k y. let g : Send (Select h) left ≡ Send (Call bus ms) k = y in
            cc) (is.counts x) in
            inr (first-selected v w f.0 h left first e bytes, f.1)))
        | inr f ↦ inr (decided (Select h) left first e bytes f)
      ]

  pub off-leaves : (off : Off) (left : ℕ) → first_act (seen v w) ≡ Some (Send (SwitchOff off) left) → (e : End) (bytes : List ℕ)
      → SendLeaves b t settled sent (SwitchOff off) left e (rest_of (seen v w) (Sent e bytes))
  off-leaves off left first e bytes =
      let goes = (settles-sent settled v w is.settles (SwitchOff off) left first).1 e bytes in
      elim (what_follows goes.0 (SwitchOff off) left e bytes (rest_of (seen v w) (Sent e bytes)) goes.1) [
        | inl quiet ↦ inl (goes_quiet (SwitchOff off) left first e bytes sent quiet
            (λ x. let f = first_still (Send (SwitchOff off) left) first
            (λ bus ms k y. let g : Send (SwitchOff off) left ≡ Send (Call bus ms) k = y in cc) (is.counts x) in
            inr (first-switched-off v w f.0 off left first e bytes, f.1)))
        | inr f ↦ inr (decided (SwitchOff off) left first e bytes f)
      ]

  -- a line step: its settle comes next only where it failed
  pub line-leaves : (job : Job) → first_act (seen v w) ≡ Some (Shift job) → (failed : Bool)
      → IsLeft b t settled sent (rest_of (seen v w) (Lined failed))
      ⊎ ((settled ≡ false) × (e : Errno) × IsDecided b t (Some e) (rest_of (seen v w) (Lined failed)))
  line-leaves job first failed =
      let at = first_is (seen v w) (Shift job) first in
      let here : Settles settled (Then (Shift job) at.0 at.1) = subst (λ (x : WalkTree). Settles settled x) at.2
      (settles_seen v settled w is.settles) in
      let calls : CallsOf b t behind_line = calls-next b t v w is.calls (Shift job) first (Lined failed) in
      let jobs : EachJob (IsJobOf b t) behind_line = jobs-next (IsJobOf b t) v w is.jobs (Shift job) first (Lined failed) in
      let later : Settles settled behind_line = subst (λ (x : WalkTree). Settles settled (rest_of x (Lined failed))) (sym at.2)
      (here failed).1 in
      let follows : one.IsDecided at.0 job zero (Lined failed) behind_line = subst
      (λ (x : WalkTree). one.IsDecided at.0 job zero (Lined failed) (rest_of x (Lined failed))) (sym at.2) (here failed).0 in
      elim follows [
        | inl quiet ↦ inl (record {
          calls = calls;
          settles = later;
          jobs = jobs;
          quiet = quiet;
          counts = λ e. (let f = first_still (Shift job) first (λ bus ms left x. let g : Shift job ≡ Send (Call bus ms) left = x in cc)
              (is.counts e) in inr (first_lined f.0, f.1));
        })
        | inr d ↦ (let err = line_errs job failed (job-shifted (IsJobOf b t) v w is.jobs job first).0 d.1 in
            let settles_next : first_act behind_line ≡ Some (Settle (Some err.0)) = d.2
            ∙ ap (λ (o : Option Errno). Some (Settle o)) err.1 in
            let before = settles-settled settled behind_line later (Some err.0) settles_next in
            inr (
              before.0,
              err.0,
              record {
                calls = calls;
                settles = subst (λ (x : Bool). Settles x behind_line) before.0 later;
                jobs = jobs;
                first = settles_next;
              },
            ))
      ]
    where
      behind_line : WalkTree
      behind_line = rest_of (seen v w) (Lined failed)

      first_lined : FirstCalls w → FirstCalls behind_line
      first_lined firsts =
          let at = first_is (seen v w) (Shift job) first in
          let here : FirstCalls (Then (Shift job) at.0 at.1) = subst (λ (x : WalkTree). FirstCalls x) at.2 (first_seen v w firsts) in
          subst (λ (x : WalkTree). FirstCalls (rest_of x (Lined failed))) (sym at.2) (here failed)

      line_errs : (job : Job) (failed : Bool) → is_line job ≡ true → decides job (job_outcome job zero (Lined failed)) ≡ true
          → (e : Errno) × (verdict_of job zero (Lined failed) ≡ Some e)
      line_errs job true line d = (errno.Eremoteio, refl)
      line_errs (Call bus ms) false line d = absurd (let f : false ≡ true = line in cc)
      line_errs (Select h) false line d = absurd (let f : false ≡ true = d in cc)
      line_errs (SwitchOff off) false line d = absurd (let f : false ≡ true = d in cc)

  -- a message of the caller's that went through: it is the last one, or the next one follows at once
  pub went-leaves : (bus : ℕ) (ms : List MessageView) (left : ℕ) → first_act (seen v w) ≡ Some (Send (Call bus ms) left) → (bytes : List ℕ)
      → SendLeaves b t settled (sent + 1) (Call bus ms) left end.Ok (rest_of (seen v w) (Sent end.Ok bytes))
  went-leaves bus ms left first bytes =
      let goes = (settles-sent settled v w is.settles (Call bus ms) left first).1 end.Ok bytes in
      by left first refl goes.0 goes.1 (what_follows goes.0 (Call bus ms) left end.Ok bytes (rest_of (seen v w) (Sent end.Ok bytes)) goes.1)
    where
      behind : WalkTree
      behind = rest_of (seen v w) (Sent end.Ok bytes)

      by : (k : ℕ) (f : first_act (seen v w) ≡ Some (Send (Call bus ms) k)) → k ≡ left → (note : Note)
          → GoesOn note (Call bus ms) k (Sent end.Ok bytes) behind
          → NoSettle behind ⊎ FollowsSend (Call bus ms) k end.Ok bytes behind
          → SendLeaves b t settled (sent + 1) (Call bus ms) k end.Ok behind
      by zero f same note goes follows =
          elim follows [
            | inl quiet ↦ absurd (quiet_settles behind quiet goes)
            | inr x ↦ inr (decided (Call bus ms) zero f end.Ok bytes x)
          ]
        where
          quiet_settles : (x : WalkTree) → NoSettle x → first_act x ≡ Some (Settle None) → ⊥
          quiet_settles x quiet settles = quiet-next v x quiet None (seen_act v x (Settle None) settles)
      by (suc k) f same note goes follows =
          elim follows [
            | inl quiet ↦ inl (goes_quiet (Call bus ms) (suc k) f end.Ok bytes (sent + 1) quiet
                (λ x. inl (record {
                  bus = bus;
                  messages = ms;
                  left = k;
                  first = call-goes-on note bus ms k bytes behind goes;
                  count = (let c = (call-is bus ms (suc k) f).2 in omega (arith, c));
                })))
            | inr x ↦ inr (decided (Call bus ms) (suc k) f end.Ok bytes x)
          ]

  -- one that didn't decides
  pub ended-leaves : (bus : ℕ) (ms : List MessageView) (left : ℕ) → first_act (seen v w) ≡ Some (Send (Call bus ms) left)
      → (e : End) (bytes : List ℕ) → (e ≡ end.Ok → ⊥)
      → SettlesNext b t settled (Call bus ms) left e (rest_of (seen v w) (Sent e bytes))
  ended-leaves bus ms left first e bytes bad =
      let goes = (settles-sent settled v w is.settles (Call bus ms) left first).1 e bytes in
      elim (what_follows goes.0 (Call bus ms) left e bytes (rest_of (seen v w) (Sent e bytes)) goes.1) [
        | inl quiet ↦ absurd (early left e bad goes.0 (rest_of (seen v w) (Sent e bytes)) quiet goes.1)
        | inr f ↦ decided (Call bus ms) left first e bytes f
      ]
    where
      settling : (x : WalkTree) (verdict : Option Errno) → NoSettle x → first_act x ≡ Some (Settle verdict) → ⊥
      settling x verdict quiet settles = quiet-next v x quiet verdict (seen_act v x (Settle verdict) settles)

      early : (k : ℕ) (y : End) → (y ≡ end.Ok → ⊥) → (note : Note) (x : WalkTree) → NoSettle x
          → GoesOn note (Call bus ms) k (Sent y bytes) x → ⊥
      early zero y never note x quiet h = settling x _ quiet h
      early (suc k) end.Ok never note x quiet h = never refl
      early (suc k) end.Nack never note x quiet h = settling x _ quiet h
      early (suc k) end.Slow never note x quiet h = settling x _ quiet h
      early (suc k) end.Refused never note x quiet h = settling x _ quiet h
      early (suc k) end.Proto never note x quiet h = settling x _ quiet h
      early (suc k) (end.Cut q) never note x quiet h = settling x _ quiet h

-- the settle
pub left-settled : (b : BoardView) (t : TransferView) (verdict : Option Errno) (w : WalkTree) (v : Slots) (sent : ℕ)
    → IsDecided b t verdict w → IsLeft b t true sent (rest_of (seen v w) Passed)
left-settled b t verdict w v sent is =
    let first : first_act (seen v w) ≡ Some (Settle verdict) = seen_act v w (Settle verdict) is.first in
    let same : seen v w ≡ w = seen-first v w (Settle verdict) is.first in
    let settles = settles-settled false w is.settles verdict is.first in
    record {
      calls = calls-next b t v w is.calls (Settle verdict) first Passed;
      settles = subst (λ (x : WalkTree). Settles true (rest_of x Passed)) (sym same) settles.2;
      jobs = jobs-next (IsJobOf b t) v w is.jobs (Settle verdict) first Passed;
      quiet = subst (λ (x : WalkTree). NoSettle (rest_of x Passed)) (sym same) settles.1;
      counts = λ e. absurd (let f : true ≡ false = e in cc);
    }

-- the walk of a transfer that isn't refused begins
pub left-opened : (b : BoardView) (t : TransferView) → IsTree b → 0 < length t.msgs → refusal b t ≡ None
    → IsLeft b t false 0 (walk_by b t None)
left-opened b t tree some granted =
    subst (λ (w : WalkTree). IsLeft b t false 0 w) (ap (walk_by b t) granted)
    (record {
      calls = walk-calls b t some;
      settles = walk-settles b t;
      jobs = walk-stays b tree t;
      quiet = walk-starts b t granted;
      counts = λ e. inr (walk-first b t, refl);
    })

-- .. and has a step
pub opened-goes : (b : BoardView) (t : TransferView) → is_over (walk_by b t None) ≡ false
opened-goes b t = by (root_of b t.bus) (hops b t.bus)
  where
    by : (root : ℕ) (hs : List Hop) → is_over (full b root hs (Call t.bus (messages_of t)) grammar.plain (λ o. Ends)) ≡ false
    by root [] = refl
    by root (h ∷ hs) = refl
