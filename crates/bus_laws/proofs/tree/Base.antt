-- A job on the bus itself: one line step, or its messages. The induction goes over the messages that may follow.
use Rattle.bus_laws.proofs.Cited.{◌≡◌, ℕ, zero, suc, ◌<◌, Bool, true, false, cond, ◌&&◌, List, [], ◌∷◌, Option, Some, None, eqb, refl, sym}
use Rattle.bus_laws.proofs.Cited.{◌∙◌, ap, subst, inl, inr, arith, eqb-false, eq-eqb, ne_eqb, eqb_tells, changed_at, fun_ext, LockId, End}
use Rattle.bus_laws.proofs.Cited.{Errno, BoardView, TransferView, Hop, hops, root_of, Crosses, IsAmongHops, buses, IsTree, MessageView}
use Rattle.bus_laws.proofs.Cited.{Mark, Job, Call, Select, SwitchOff, Off, off_bus, off_mux, off_kind, ActOutcome, Passed, Sent, Lined}
use Rattle.bus_laws.proofs.Cited.{JobOutcome, Good, Refused, Failed, Note, WalkTree, Go, On, Last, Over, goes, first_byte, job_outcome}
use Rattle.bus_laws.proofs.Cited.{sent_outcome, verdict_of, decides, is_gpio, is_arbitrator, Slots, At, MuxSlot, Clean, Marked, Polled}
use Rattle.bus_laws.proofs.Cited.{Found, turned, turned_at, set_marks, after_job, settled, over, by_go, messages, IsOpenOn, InLocks}
use Rattle.bus_laws.proofs.Cited.{CanSend, CanSelect, FindsSelect, CanGoThrough, HeadsMarks, IsUnmarked, IsOfMux, MayFail, Owns, MaySend}
use Rattle.bus_laws.proofs.Cited.{Runs}
use Rattle.i2c_base.specs.declared.ids.LockId.TheVariants as lock
use Rattle.i2c_base.specs.declared.entry.End.TheVariants as end
use Rattle.bus_spec.specs.Slots.{shut}
use Rattle.bus_laws.specs.Runs.{answers}
use Rattle.bus_laws.proofs.world.BoardFacts.{absent_silent, held_silent}
use Rattle.bus_laws.proofs.tree.Slots.{turned-same, turned-other, set_marks-along}
use Rattle.bus_laws.proofs.tree.Doers.{After, CanJob, job_after}
use Rattle.bus_laws.proofs.world.Reach.{crosses_of}

-- a settle in between changes nothing
pub settled-runs : (b : BoardView) (whose : TransferView) (held : List LockId) (v : Slots) (t : Bool) (e : Option Errno) (w : WalkTree)
    → Runs b whose held v w → Runs b whose held v (settled t e w)
settled-runs b whose held v true e w h = h
settled-runs b whose held v false e w h = h

pub over-runs : (b : BoardView) (whose : TransferView) (held : List LockId) (v : Slots) (job : Job) (left : ℕ) (note : Note) (k : JobOutcome
    → WalkTree) (out : ActOutcome)
    → Runs b whose held v (k (job_outcome job left out)) → Runs b whose held v (over job left note k out)
over-runs b whose held v job left note k out h =
    settled-runs b whose held v (note.forward && decides job (job_outcome job left out)) (verdict_of job left out)
    (k (job_outcome job left out)) h

-- what follows a message, whichever way it goes on
go-runs : (b : BoardView) (whose : TransferView) (held : List LockId) (v : Slots) (job : Job) (left : ℕ) (note : Note) (k : JobOutcome
    → WalkTree) (out : ActOutcome) (g : Go)
    → Runs b whose held v (messages left job note k) → Runs b whose held v (messages zero job note k)
    → Runs b whose held v (over job (suc left) note k out)
    → Runs b whose held v (by_go g (messages left job note k) (messages zero job note k) (over job (suc left) note k out))
go-runs b whose held v job left note k out On hx hy hz = hx
go-runs b whose held v job left note k out Last hx hy hz = hy
go-runs b whose held v job left note k out Over hx hy hz = hz

-- no hop over a bus stands on it
pub crosses_below : (b : BoardView) → IsTree b → (hs : List Hop) (s p : ℕ) → hops b s ≡ hs → Crosses p hs → p < s
crosses_below b tree [] s p e c = absurd c
crosses_below b tree (h ∷ hs) s p e c =
    let leads = tree.leads s h hs e in
    elim c [
      | inl at ↦ let on : h.on ≡ p = at in omega arith
      | inr more ↦ let below : p < h.on = crosses_below b tree hs h.on p (tree.tail s h hs e) more in omega arith
    ]

pub own_apart : (b : BoardView) → IsTree b → (s : ℕ) (g : Hop) → IsAmongHops g (hops b s) → g.on ≡ s → ⊥
own_apart b tree s g a e =
    let below : g.on < s = crosses_below b tree (hops b s) s g.on refl (crosses_of g (hops b s) a) in
    omega arith

-- CALLS

call_can : (b : BoardView) (bus : ℕ) (ms : List MessageView) (e : End) → CanJob b [] (Call bus ms) (sent_outcome Good e)
call_can b bus ms end.Ok = inr (tt, tt)
call_can b bus ms end.Nack = (refl, tt, tt)
call_can b bus ms end.Slow = (refl, tt, tt)
call_can b bus ms end.Refused = (refl, tt, tt)
call_can b bus ms end.Proto = (refl, tt, tt)
call_can b bus ms (end.Cut q) = tt

module _ (b : BoardView) (whose : TransferView) (bus : ℕ) (ms : List MessageView) (note : Note) (k : JobOutcome → WalkTree)
    (held : List LockId) (v : Slots)
    (goes_on : (o : JobOutcome) → CanJob b [] (Call bus ms) o → Runs b whose held v (k o)) where
  call_over : (left : ℕ) (out : ActOutcome) → CanSend b (Call bus ms) left out → Runs b whose held v (over (Call bus ms) left note k out)
  call_over left (Sent e bytes) can =
      over-runs b whose held v (Call bus ms) left note k (Sent e bytes) (goes_on (sent_outcome Good e) (call_can b bus ms e))
  call_over left (Lined failed) can = absurd can
  call_over left Passed can = absurd can

  call_last : MaySend b whose (Call bus ms) zero note.marks held v → Runs b whose held v (messages zero (Call bus ms) note k)
  call_last may = (may, λ out can. call_over zero out can)

  pub call_runs : MaySend b whose (Call bus ms) zero note.marks held v → (left : ℕ)
      → Runs b whose held v (messages left (Call bus ms) note k)
  call_runs may zero = call_last may
  call_runs may (suc left) = (
    record {
      reached = may.reached;
      rooted = may.rooted;
      finds = tt;
      owns = tt;
      may_fail = may.may_fail;
      granted = may.granted;
      by_message = refl;
    },
    λ out can. go-runs b whose held v (Call bus ms) left note k out (goes (Call bus ms) left out)
        (call_runs may left) (call_last may) (call_over (suc left) out can),
  )

-- SELECTS

-- knowledge that agrees but for the slot of the own bus, and the channel of the own mux
record IsSameOff (on mux : ℕ) (v w : Slots) : Type 0 where
  off : (p : ℕ) → (p ≡ on → ⊥) → v p ≡ w p
  kept : (n : ℕ) → (n ≡ mux → ⊥) → (v on).kept n ≡ (w on).kept n

same_all : (on mux : ℕ) (v : Slots) → IsSameOff on mux v v
same_all on mux v = record { off = λ p ne. refl; kept = λ n ne. refl }

fail_along : (b : BoardView) (held : List LockId) (on mux : ℕ) (v w : Slots) (ms : List Mark) → IsSameOff on mux v w → IsUnmarked on ms
    → MayFail b ms held w → MayFail b ms held v
fail_along b held on mux v w [] same un fail = tt
fail_along b held on mux v w (m ∷ ms) same un fail =
    let at : v m.on ≡ w m.on = same.off m.on (λ e. un.0 (sym e)) in (
      record {
        locked = fail.0.locked;
        at_home = fail.0.at_home;
        forgets = subst (λ (x : At). IsOfMux m.mux x.slot) (sym at) fail.0.forgets;
      },
      fail_along b held on mux v w ms same un.1 fail.1,
    )

-- the own mark is of the own mux, whatever is known of the own bus
fail_own : (b : BoardView) (held : List LockId) (on mux : ℕ) (v w : Slots) (ms : List Mark) → IsSameOff on mux v w → HeadsMarks on mux ms
    → IsOfMux mux (v on).slot → MayFail b ms held w → MayFail b ms held v
fail_own b held on mux v w [] same heads own fail = absurd heads
fail_own b held on mux v w (m ∷ ms) same heads own fail = (
  record {
    locked = fail.0.locked;
    at_home = fail.0.at_home;
    forgets = subst (λ (p : ℕ). IsOfMux m.mux (v p).slot) (sym heads.0) (subst (λ (x : ℕ). IsOfMux x (v on).slot) (sym heads.1) own);
  },
  fail_along b held on mux v w ms same heads.2 fail.1,
)

abbrev pub at_with : MuxSlot → (ℕ → Option ℕ) → At
at_with s k = record { slot = s; kept = k }

changed_alike : (f g : ℕ → Option ℕ) (m : ℕ) (c : Option ℕ) → ((n : ℕ) → (n ≡ m → ⊥) → f n ≡ g n) → (n : ℕ)
    → changed_at f m c n ≡ changed_at g m c n
changed_alike f g m c same n =
    elim (eqb_tells n m) [
      | inl h ↦ ap (λ (t : Bool). cond t c (f n)) h.0 ∙ sym (ap (λ (t : Bool). cond t c (g n)) h.0)
      | inr h ↦ ap (λ (t : Bool). cond t c (f n)) h.0 ∙ same n h.1 ∙ sym (ap (λ (t : Bool). cond t c (g n)) h.0)
    ]

turned_alike : (x y : At) (m : ℕ) (s : MuxSlot) (c : Option ℕ) → ((n : ℕ) → (n ≡ m → ⊥) → x.kept n ≡ y.kept n)
    → turned_at x m s c ≡ turned_at y m s c
turned_alike x y m s c same = ap (λ (k : ℕ → Option ℕ). at_with s k) (fun_ext (changed_alike x.kept y.kept m c same))

turned-alike : (on m : ℕ) (v w : Slots) (s : MuxSlot) (c : Option ℕ) → IsSameOff on m v w → (p : ℕ)
    → turned v on m s c p ≡ turned w on m s c p
turned-alike on m v w s c same p =
    elim (eqb_tells p on) [
      | inl h ↦ ap (λ t. cond t (turned_at (v on) m s c) (v p)) h.0 ∙ turned_alike (v on) (w on) m s c same.kept
          ∙ sym (ap (λ t. cond t (turned_at (w on) m s c) (w p)) h.0)
      | inr h ↦ turned-other v on m p s c h.1 ∙ same.off p h.1 ∙ sym (turned-other w on m p s c h.1)
    ]

set_marks-alike : (on mux : ℕ) (v w : Slots) (ms : List Mark) → IsSameOff on mux v w → HeadsMarks on mux ms → (p : ℕ)
    → set_marks ms v p ≡ set_marks ms w p
set_marks-alike on mux v w [] same heads p = absurd heads
set_marks-alike on mux v w (m ∷ ms) same heads p =
    elim (eqb_tells p on) [
      | inl h ↦ (let at : p ≡ m.on = h.1 ∙ sym heads.0 in
          let kept : (n : ℕ) → (n ≡ m.mux → ⊥) → (v m.on).kept n ≡ (w m.on).kept n =
          λ n ne. subst (λ (i : ℕ). (v i).kept n ≡ (w i).kept n) (sym heads.0) (same.kept n (λ e. ne (e ∙ sym heads.1))) in
          ap (λ t. cond t (turned_at (v m.on) m.mux (Marked m.mux) None) (set_marks ms v p)) (eq-eqb p m.on at)
          ∙ turned_alike (v m.on) (w m.on) m.mux (Marked m.mux) None kept
          ∙ sym (ap (λ t. cond t (turned_at (w m.on) m.mux (Marked m.mux) None) (set_marks ms w p)) (eq-eqb p m.on at)))
      | inr h ↦ set_marks-along (m ∷ ms) v w p (same.off p h.1)
    ]

no_mux_lock : (root p : ℕ) → InLocks (lock.Mux p) (lock.Bus root ∷ []) → ⊥
no_mux_lock root p i = elim i [ inl e ↦ (let f : lock.Mux p ≡ lock.Bus root = e in cc) | inr more ↦ more ]

same_after : (on mux : ℕ) (v w : Slots) (s : MuxSlot) → IsSameOff on mux v w → IsSameOff on mux (turned v on mux s None) w
same_after on mux v w s same =
    record {
      off = λ p ne. turned-other v on mux p s None ne ∙ same.off p ne;
      kept = λ n ne. ap (λ (x : At). x.kept n) (turned-same v on mux s None)
          ∙ ap (λ (t : Bool). cond t None ((v on).kept n)) (ne_eqb n mux ne) ∙ same.kept n ne;
    }

none_at : (v : Slots) (on mux : ℕ) (s : MuxSlot) → (turned v on mux s None on).kept mux ≡ None
none_at v on mux s = ap (λ (x : At). x.kept mux) (turned-same v on mux s None)
    ∙ ap (λ (t : Bool). cond t None ((v on).kept mux)) (eq-eqb mux mux refl)

slot_at : (v : Slots) (on mux : ℕ) (s : MuxSlot) → (turned v on mux s None on).slot ≡ s
slot_at v on mux s = ap (λ (x : At). x.slot) (turned-same v on mux s None)

module _ (b : BoardView) (whose : TransferView) (tree : IsTree b) (root : ℕ) (h : Hop) (note : Note) (k : JobOutcome → WalkTree)
    (held : List LockId) (first : Slots)
    (reached : (g : Hop) → IsAmongHops g (hops b h.on) → IsOpenOn b g (first g.on) × InLocks (lock.Mux g.on) held)
    (rooted : InLocks (lock.Bus (root_of b h.on)) held)
    (owns : Owns (Select h) note.marks held) (among : IsAmongHops h (hops b h.bus)) (there : h.bus < buses b)
    (fail : MayFail b note.marks held first) (no_line : is_gpio h.kind ≡ false)
    (goes_on : (o : JobOutcome) (w : Slots) → After b [] (lock.Bus root ∷ []) (Select h) note.marks first o w
    → Runs b whose held w (k o)) where
  select_may : (v : Slots) (left : ℕ) → IsSameOff h.on h.mux v first → IsOfMux h.mux (v h.on).slot
      → FindsSelect (is_arbitrator h.kind) h left (v h.on) → MaySend b whose (Select h) left note.marks held v
  select_may v left same own finds =
      record {
        reached = λ g a. (
          subst (λ (x : At). IsOpenOn b g x) (sym (same.off g.on (own_apart b tree h.on g a))) (reached g a).0,
          (reached g a).1,
        );
        rooted = rooted;
        finds = (finds, among, there);
        owns = owns;
        may_fail = fail_own b held h.on h.mux v first note.marks same owns.1 own fail;
        granted = tt;
        by_message = no_line;
      }

  select_good : (v : Slots) → IsSameOff h.on h.mux v first → answers b h.mux ≡ true
      → Runs b whose held (turned v h.on h.mux Clean (Some h.channel)) (k Good)
  select_good v same ans =
      goes_on Good (turned v h.on h.mux Clean (Some h.channel)) (record {
        off = λ p off. turned-alike h.on h.mux v first Clean (Some h.channel) same p;
        rest = λ p i. absurd (no_mux_lock root p i);
        can = inr (tt, ans);
      })

  select_refused : (v : Slots) → IsSameOff h.on h.mux v first → answers b h.mux ≡ false
      → Runs b whose held (turned v h.on h.mux Clean None) (k Refused)
  select_refused v same ans =
      goes_on Refused (turned v h.on h.mux Clean None) (record {
        off = λ p off. turned-alike h.on h.mux v first Clean None same p;
        rest = λ p i. absurd (no_mux_lock root p i);
        can = (no_line, tt, ans);
      })

  select_failed : (v : Slots) → IsSameOff h.on h.mux v first → Runs b whose held (set_marks note.marks v) (k Failed)
  select_failed v same =
      goes_on Failed (set_marks note.marks v) (record {
        off = λ p off. set_marks-alike h.on h.mux v first note.marks same owns.1 p;
        rest = λ p i. absurd (no_mux_lock root p i);
        can = tt;
      })

  -- a message that doesn't go through ends the job, whichever one it is
  select_ends : (v : Slots) (left : ℕ) (e : End) (bytes : List ℕ) → IsSameOff h.on h.mux v first → (e ≡ end.Ok → ⊥)
      → CanSelect b h left e bytes
      → Runs b whose held (after_job (Select h) left note.marks (Sent e bytes) v) (over (Select h) left note k (Sent e bytes))
  select_ends v left end.Ok bytes same bad can = absurd (bad refl)
  select_ends v left end.Nack bytes same bad can = over-runs b whose held (turned v h.on h.mux Clean None) (Select h) left note k
      (Sent end.Nack bytes) (select_refused v same (absent_silent b h.mux can))
  select_ends v left end.Slow bytes same bad can = absurd can
  select_ends v left end.Refused bytes same bad can = absurd can
  select_ends v left end.Proto bytes same bad can = absurd can
  select_ends v left (end.Cut q) bytes same bad can = over-runs b whose held (set_marks note.marks v) (Select h) left note k
      (Sent (end.Cut q) bytes) (select_failed v same)

  -- the write is the last message
  select_last : (v : Slots) → IsSameOff h.on h.mux v first → MaySend b whose (Select h) zero note.marks held v
      → Runs b whose held v (messages zero (Select h) note k)
  select_last v same may = (may, ends)
    where
      ends : (out : ActOutcome) → CanSend b (Select h) zero out
          → Runs b whose held (after_job (Select h) zero note.marks out v) (over (Select h) zero note k out)
      ends (Sent end.Ok bytes) can = over-runs b whose held (turned v h.on h.mux Clean (Some h.channel)) (Select h) zero note k
          (Sent end.Ok bytes) (select_good v same can)
      ends (Sent end.Nack bytes) can = select_ends v zero end.Nack bytes same (λ e. let f : end.Nack ≡ end.Ok = e in cc) can
      ends (Sent end.Slow bytes) can = select_ends v zero end.Slow bytes same (λ e. let f : end.Slow ≡ end.Ok = e in cc) can
      ends (Sent end.Refused bytes) can = select_ends v zero end.Refused bytes same (λ e. let f : end.Refused ≡ end.Ok = e in cc) can
      ends (Sent end.Proto bytes) can = select_ends v zero end.Proto bytes same (λ e. let f : end.Proto ≡ end.Ok = e in cc) can
      ends (Sent (end.Cut q) bytes) can = select_ends v zero (end.Cut q) bytes same (λ e. let f : end.Cut q ≡ end.Ok = e in cc) can
      ends (Lined failed) can = absurd can
      ends Passed can = absurd can

  -- a poll that went through: the arbitrator is free and is switched, or it is asked again while polls are left
  polled_free : (v : Slots) → IsSameOff h.on h.mux v first → is_arbitrator h.kind ≡ true
      → Runs b whose held (turned v h.on h.mux (Found h) None) (messages zero (Select h) note k)
  polled_free v same arb =
      let at : (turned v h.on h.mux (Found h) None h.on).slot ≡ Found h = slot_at v h.on h.mux (Found h) in
      let same2 : IsSameOff h.on h.mux (turned v h.on h.mux (Found h) None) first = same_after h.on h.mux v first (Found h) same in
      select_last (turned v h.on h.mux (Found h) None) same2
      (select_may (turned v h.on h.mux (Found h) None) zero same2
      (subst (λ (s : MuxSlot). IsOfMux h.mux s) (sym at) refl)
      (subst (λ (t : Bool). FindsSelect t h zero (turned v h.on h.mux (Found h) None h.on)) (sym arb) (at, none_at v h.on h.mux (Found h))))

  last_poll : (v : Slots) (bytes : List ℕ) → IsSameOff h.on h.mux v first → is_arbitrator h.kind ≡ true
      → CanGoThrough b h (suc zero) bytes → (t : Bool) → eqb (first_byte bytes) 0 ≡ t
      → Runs b whose held (turned v h.on h.mux (cond t (Found h) Clean) None)
      (by_go (cond t Last Over) (messages zero (Select h) note k) (messages zero (Select h) note k)
      (over (Select h) (suc zero) note k (Sent end.Ok bytes)))
  last_poll v bytes same arb can true e = polled_free v same arb
  last_poll v bytes same arb can false e =
      let ans : answers b h.mux ≡ false =
      elim can [ inl z ↦ absurd (eqb-false (first_byte bytes) 0 e z) | inr a ↦ held_silent b h.mux a.1 ] in
      over-runs b whose held (turned v h.on h.mux Clean None) (Select h) (suc zero) note k (Sent end.Ok bytes) (select_refused v same ans)

  more_polls : is_arbitrator h.kind ≡ true → (left : ℕ) (v : Slots) (bytes : List ℕ) → IsSameOff h.on h.mux v first
      → (t : Bool) → eqb (first_byte bytes) 0 ≡ t
      → Runs b whose held (turned v h.on h.mux (Polled h left) None) (messages (suc left) (Select h) note k)
      → Runs b whose held (turned v h.on h.mux (cond t (Found h) (Polled h left)) None)
      (by_go (cond t Last On) (messages (suc left) (Select h) note k) (messages zero (Select h) note k)
      (over (Select h) (suc (suc left)) note k (Sent end.Ok bytes)))
  more_polls arb left v bytes same true e next = polled_free v same arb
  more_polls arb left v bytes same false e next = next

  -- the induction over the polls that may follow
  polls : is_arbitrator h.kind ≡ true → (left : ℕ) (v : Slots) → IsSameOff h.on h.mux v first
      → MaySend b whose (Select h) (suc left) note.marks held v
      → Runs b whose held v (messages (suc left) (Select h) note k)
  polls arb zero v same may = (may, ends)
    where
      ends : (out : ActOutcome) → CanSend b (Select h) (suc zero) out
          → Runs b whose held (after_job (Select h) (suc zero) note.marks out v)
          (by_go (goes (Select h) zero out) (messages zero (Select h) note k) (messages zero (Select h) note k)
          (over (Select h) (suc zero) note k out))
      ends (Sent end.Ok bytes) can = last_poll v bytes same arb can (eqb (first_byte bytes) 0) refl
      ends (Sent end.Nack bytes) can = select_ends v (suc zero) end.Nack bytes same (λ e. let f : end.Nack ≡ end.Ok = e in cc) can
      ends (Sent end.Slow bytes) can = select_ends v (suc zero) end.Slow bytes same (λ e. let f : end.Slow ≡ end.Ok = e in cc) can
      ends (Sent end.Refused bytes) can = select_ends v (suc zero) end.Refused bytes same (λ e. let f : end.Refused ≡ end.Ok = e in cc) can
      ends (Sent end.Proto bytes) can = select_ends v (suc zero) end.Proto bytes same (λ e. let f : end.Proto ≡ end.Ok = e in cc) can
      ends (Sent (end.Cut q) bytes) can = select_ends v (suc zero) (end.Cut q) bytes same (λ e. let f : end.Cut q ≡ end.Ok = e in cc) can
      ends (Lined failed) can = absurd can
      ends Passed can = absurd can
  polls arb (suc left) v same may = (may, ends (polls arb left))
    where
      ends : ((w : Slots) → IsSameOff h.on h.mux w first → MaySend b whose (Select h) (suc left) note.marks held w
          → Runs b whose held w (messages (suc left) (Select h) note k))
          → (out : ActOutcome) → CanSend b (Select h) (suc (suc left)) out
          → Runs b whose held (after_job (Select h) (suc (suc left)) note.marks out v)
          (by_go (goes (Select h) (suc left) out) (messages (suc left) (Select h) note k) (messages zero (Select h) note k)
          (over (Select h) (suc (suc left)) note k out))
      ends again (Sent end.Ok bytes) can =
          let at : (turned v h.on h.mux (Polled h left) None h.on).slot ≡ Polled h left = slot_at v h.on h.mux (Polled h left) in
          let same2 : IsSameOff h.on h.mux (turned v h.on h.mux (Polled h left) None) first = same_after h.on h.mux v first
          (Polled h left) same in
          more_polls arb left v bytes same (eqb (first_byte bytes) 0) refl
          (again (turned v h.on h.mux (Polled h left) None) same2
          (select_may (turned v h.on h.mux (Polled h left) None) (suc left) same2
          (subst (λ (s : MuxSlot). IsOfMux h.mux s) (sym at) refl)
          (subst (λ (t : Bool). FindsSelect t h (suc left) (turned v h.on h.mux (Polled h left) None h.on)) (sym arb)
          (inl at, none_at v h.on h.mux (Polled h left)))))
      ends again (Sent end.Nack bytes) can = select_ends v (suc (suc left)) end.Nack bytes same (λ e. let f : end.Nack ≡ end.Ok = e in
          cc) can
      ends again (Sent end.Slow bytes) can = select_ends v (suc (suc left)) end.Slow bytes same (λ e. let f : end.Slow ≡ end.Ok = e in
          cc) can
      ends again (Sent end.Refused bytes) can = select_ends v (suc (suc left)) end.Refused bytes same
          (λ e. let f : end.Refused ≡ end.Ok = e in cc) can
      ends again (Sent end.Proto bytes) can = select_ends v (suc (suc left)) end.Proto bytes same (λ e. let f : end.Proto ≡ end.Ok = e in
          cc) can
      ends again (Sent (end.Cut q) bytes) can = select_ends v (suc (suc left)) (end.Cut q) bytes same
          (λ e. let f : end.Cut q ≡ end.Ok = e in cc) can
      ends again (Lined failed) can = absurd can
      ends again Passed can = absurd can

  -- the whole select, with polls or without
  pub select_runs : (t : Bool) → is_arbitrator h.kind ≡ t → IsOfMux h.mux (first h.on).slot → (first h.on).slot ≡ Clean
      → (is_arbitrator h.kind ≡ true → (first h.on).kept h.mux ≡ None)
      → Runs b whose held first (messages (cond t 8 0) (Select h) note k)
  select_runs true arb own clean shut =
      polls arb 7 first (same_all h.on h.mux first)
      (select_may first 8 (same_all h.on h.mux first) own
      (subst (λ (t : Bool). FindsSelect t h 8 (first h.on)) (sym arb) (inr (refl, clean), shut arb)))
  select_runs false arb own clean shut =
      select_last first (same_all h.on h.mux first)
      (select_may first zero (same_all h.on h.mux first) own
      (subst (λ (t : Bool). FindsSelect t h zero (first h.on)) (sym arb) (refl, clean)))

-- DESELECTS AND CLOSES

module _ (b : BoardView) (whose : TransferView) (root : ℕ) (off : Off) (note : Note) (k : JobOutcome → WalkTree)
    (held : List LockId) (first : Slots)
    (no_line : is_gpio (off_kind off) ≡ false)
    (goes_on : (o : JobOutcome) (w : Slots) → After b [] (lock.Bus root ∷ []) (SwitchOff off) note.marks first o w
    → Runs b whose held w (k o)) where
  abbrev left_shut : Slots
  left_shut = shut (off_bus off) (off_mux off) first

  off_sent : (o : JobOutcome) → CanJob b [] (SwitchOff off) o → ((p : ℕ) → left_shut p ≡ job_after (SwitchOff off) note.marks o first p)
      → Runs b whose held left_shut (k o)
  off_sent o can same =
      goes_on o left_shut (record { off = λ p h. same p; rest = λ p i. absurd (no_mux_lock root p i); can = can })

  off_refused : Runs b whose held left_shut (k Refused)
  off_refused = off_sent Refused (no_line, tt, tt) (λ p. refl)

  off_failed : Runs b whose held (set_marks note.marks first) (k Failed)
  off_failed =
      goes_on Failed (set_marks note.marks first) (record { off = λ p h. refl; rest = λ p i. absurd (no_mux_lock root p i); can = tt })

  off_over : (out : ActOutcome) → CanSend b (SwitchOff off) zero out
      → Runs b whose held (after_job (SwitchOff off) zero note.marks out first) (over (SwitchOff off) zero note k out)
  off_over (Sent end.Ok bytes) can =
      over-runs b whose held left_shut (SwitchOff off) zero note k (Sent end.Ok bytes) (off_sent Good (inr (tt, tt)) (λ p. refl))
  off_over (Sent end.Nack bytes) can = over-runs b whose held left_shut (SwitchOff off) zero note k (Sent end.Nack bytes) off_refused
  off_over (Sent end.Slow bytes) can = over-runs b whose held left_shut (SwitchOff off) zero note k (Sent end.Slow bytes) off_refused
  off_over (Sent end.Refused bytes) can = over-runs b whose held left_shut (SwitchOff off) zero note k (Sent end.Refused bytes) off_refused
  off_over (Sent end.Proto bytes) can = over-runs b whose held left_shut (SwitchOff off) zero note k (Sent end.Proto bytes) off_refused
  off_over (Sent (end.Cut q) bytes) can =
      over-runs b whose held (set_marks note.marks first) (SwitchOff off) zero note k (Sent (end.Cut q) bytes) off_failed
  off_over (Lined failed) can = absurd can
  off_over Passed can = absurd can

  pub off_runs : MaySend b whose (SwitchOff off) zero note.marks held first → Runs b whose held first (messages zero (SwitchOff off) note k)
  off_runs may = (may, off_over)
