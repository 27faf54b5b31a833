-- A job behind one mux: the close of a marked mux, the select, the job, the deselect. What does a job on the bus that
-- the mux stands on is given, and runs.
use Rattle.bus_laws.proofs.Cited.{◌≡◌, ℕ, ◌<◌, ◌&&◌, Bool, cond, eqb, true, false, List, [], ◌∷◌, Option, Some, None, refl, sym, ◌∙◌, ap}
use Rattle.bus_laws.proofs.Cited.{subst, ◌⊎◌, inl, inr, arith, unwrap_or, slice_get, option_map, AllByRecursion, LockId, MuxKind, Pca9548}
use Rattle.bus_laws.proofs.Cited.{MuxSpec, BoardView, TransferView, Hop, hops, buses, root_of, locks_of, home_of_mux, Crosses, IsAmongHops}
use Rattle.bus_laws.proofs.Cited.{is_left_open, IsTree, IsHop, changed_at, eqb-true, eqb_tells, Look, KeptOf, Mark, Job, Select, SwitchOff}
use Rattle.bus_laws.proofs.Cited.{Deselect, Close, JobOutcome, Good, Refused, Unsent, Failed, Note, WalkTree, job_bus, is_line, is_gpio}
use Rattle.bus_laws.proofs.Cited.{is_arbitrator, Slots, At, MuxSlot, Clean, Marked, mark_in, turned, turned_at, set_marks, Doer, aside}
use Rattle.bus_laws.proofs.Cited.{with_mark, if_sent, if_good, kind_of, closing, left_behind, opened, chosen, crossed, behind, IsOpenOn}
use Rattle.bus_laws.proofs.Cited.{InLocks, IsShut, IsRest, IsMuxOf, IsUnmarked, IsOfMux, MayFail, Owns, IsGranted, Runs, LinesAreLocked}
use Rattle.bus_laws.proofs.Cited.{and_first, and_last}
use Rattle.i2c_base.specs.declared.ids.LockId.TheVariants as lock
use Rattle.bus_laws.specs.Runs.{answers, OthersKept, IsKept}
use Rattle.bus_laws.proofs.tree.Slots.{changed-other, turned-same, turned-other, set_marks-along, set_marks-head, shut_clean, marked_slot}
use Rattle.bus_laws.proofs.tree.Doers.{Responds, AllRespond, CanJob, job_after, OwnsOff, FindsFirst, CallUnmarked, IsPassed, Before, After}
use Rattle.bus_laws.proofs.tree.Doers.{DoerRuns}
use Rattle.bus_laws.proofs.tree.Base.{crosses_below}
use Rattle.bus_laws.proofs.tree.Path.{job_after-off, job_after-along, job_after-unsent, job_after-failed, finds_along, fail_along}
use Rattle.bus_laws.proofs.tree.Path.{unmarked_off, marks_tail, owns_off_tail, own_crosses, can_more, bus_among, sub_locks}
use Rattle.bus_laws.proofs.world.Slots.{kept_other, kept_own}

-- the kind that a board tells of a mux
told_kind : (o : Option MuxSpec) (k : MuxKind) → unwrap_or (option_map (λ (m : MuxSpec). Some m.kind) o) None ≡ Some k
    → unwrap_or (option_map (λ (m : MuxSpec). m.kind) o) Pca9548 ≡ k
told_kind None k e = (let f : None ≡ Some k = e in cc)
told_kind (Some x) k e = (let f : Some x.kind ≡ Some k = e in cc)

others_stay : (b : BoardView) (p m : ℕ) (x : At) → OthersKept b p m x → (n c : ℕ) → changed_at x.kept m None n ≡ Some c → IsKept b p n
others_stay b p m x others n c e =
    elim (eqb_tells n m) [
      | inl h ↦ absurd (let f : None ≡ Some c = sym (kept_own x.kept m n None h.1) ∙ e in cc)
      | inr h ↦ others n c h.1 (sym (kept_other x.kept m n None h.1) ∙ e)
    ]

-- what may be found at rest: this mux was shut; it is marked; or it stays as it is
rest_shut : (b : BoardView) (p m : ℕ) (x : At) → OthersKept b p m x → IsRest b p (turned_at x m Clean None)
rest_shut b p m x others =
    record {
      shut = tt;
      home = λ n f. absurd (let g : Clean ≡ Marked n = f in cc);
      known = λ n f. absurd (let g : Clean ≡ Marked n = f in cc);
      stay = others_stay b p m x others;
    }

rest_marked : (b : BoardView) (p m : ℕ) (x : At) → OthersKept b p m x → home_of_mux b m ≡ p → IsMuxOf b m (kind_of b m)
    → IsRest b p (turned_at x m (Marked m) None)
rest_marked b p m x others home known =
    record {
      shut = tt;
      home = λ n f. subst (λ (i : ℕ). home_of_mux b i ≡ p) (let g : Marked m ≡ Marked n = f in cc) home;
      known = λ n f. subst (λ (i : ℕ). IsMuxOf b i (kind_of b i)) (let g : Marked m ≡ Marked n = f in cc) known;
      stay = others_stay b p m x others;
    }

rest_open : (b : BoardView) (h : Hop) (x : At) → IsOpenOn b h x → IsKept b h.on h.mux → IsRest b h.on x
rest_open b h x is_open own =
    record {
      shut = subst (λ (s : MuxSlot). IsShut s) (sym is_open.clean) tt;
      home = λ n f. absurd (let g : Clean ≡ Marked n = sym is_open.clean ∙ f in cc);
      known = λ n f. absurd (let g : Clean ≡ Marked n = sym is_open.clean ∙ f in cc);
      stay = λ n c e. elim (eqb_tells n h.mux) [
        | inl q ↦ subst (λ (i : ℕ). IsKept b h.on i) (sym q.1) own
        | inr q ↦ is_open.others n c q.1 e
      ];
    }

open_of : (b : BoardView) (h : Hop) (x : At) → OthersKept b h.on h.mux x → IsOpenOn b h (turned_at x h.mux Clean (Some h.channel))
open_of b h x others =
    record {
      clean = refl;
      kept = kept_own x.kept h.mux h.mux (Some h.channel) refl;
      others = λ n c ne e. others n c ne (sym (kept_other x.kept h.mux n (Some h.channel) ne) ∙ e);
    }

others_rest : (b : BoardView) (p m : ℕ) (x : At) → IsRest b p x → OthersKept b p m x
others_rest b p m x rest n c ne e = rest.stay n c e

slot_of : (x y : At) (s : MuxSlot) → x ≡ y → y.slot ≡ s → x.slot ≡ s
slot_of x y s e f = ap (λ (z : At). z.slot) e ∙ f

module _ (b : BoardView) (whose : TransferView) (tree : IsTree b) (lines : LinesAreLocked b) (root : ℕ) (h : Hop) (hs : List Hop)
    (s floor : ℕ) (on : Doer)
    (at : hops b s ≡ h ∷ hs) (there : s < buses b) (rooted : root_of b s ≡ root)
    (sub : DoerRuns b whose root hs (sub_locks root h hs) floor on)
    (job : Job) (note : Note) (k : JobOutcome → WalkTree) (held : List LockId) (v : Slots)
    (no_line : is_line job ≡ false)
    (before : Before b whose root (h ∷ hs) (lock.Mux h.on ∷ sub_locks root h hs) floor job note.marks held v)
    (goes_on : (o : JobOutcome) (w : Slots) → After b (h ∷ hs) (lock.Mux h.on ∷ sub_locks root h hs) job note.marks v o w
    → Runs b whose held w (k o)) where
  off_on : Crosses h.on hs → ⊥
  off_on c = let below : h.on < h.on = crosses_below b tree hs h.on h.on (tree.tail s h hs at) c in omega arith

  way_on : hops b h.on ≡ hs
  way_on = tree.tail s h hs at

  among : IsAmongHops h (hops b s)
  among = subst (λ (xs : List Hop). IsAmongHops h xs) (sym at) (inl refl)

  is_hop : IsHop b h
  is_hop = tree.hop s h among

  among_own : IsAmongHops h (hops b h.bus)
  among_own = subst (λ (i : ℕ). IsAmongHops h (hops b i)) (sym (tree.leads s h hs at).0) among

  bus_there : h.bus < buses b
  bus_there = subst (λ (i : ℕ). i < buses b) (sym (tree.leads s h hs at).0) there

  root_on : root_of b h.on ≡ root
  root_on = tree.root_same s h among ∙ rooted

  -- the lines of a mux on the bus have the root's lock
  line_root : (m : ℕ) → home_of_mux b m ≡ h.on → is_gpio (kind_of b m) ≡ true → InLocks (lock.Bus root) (locks_of root hs)
  line_root m home gpio =
      bus_among root hs (λ g a. lines m g gpio
      (subst (λ (xs : List Hop). IsAmongHops g xs) (sym (ap (λ (i : ℕ). hops b i) home ∙ way_on)) a))

  own_root : is_gpio h.kind ≡ true → InLocks (lock.Bus root) (locks_of root hs)
  own_root gpio =
      line_root h.mux is_hop.home (ap is_gpio (told_kind (slice_get b.muxes h.mux) h.kind is_hop.kind) ∙ gpio)

  own_kind : kind_of b h.mux ≡ h.kind
  own_kind = told_kind (slice_get b.muxes h.mux) h.kind is_hop.kind

  own_known : IsMuxOf b h.mux (kind_of b h.mux)
  own_known = is_hop.kind ∙ ap Some (sym (told_kind (slice_get b.muxes h.mux) h.kind is_hop.kind))

  own_held : InLocks (lock.Mux h.on) held
  own_held = before.locks (lock.Mux h.on) (inl refl)

  -- knowledge as it was off the path, with the locked buses behind at rest
  record Like (u : Slots) : Type 0 where
    off : (p : ℕ) → (Crosses p (h ∷ hs) → ⊥) → u p ≡ v p
    rest : (p : ℕ) → InLocks (lock.Mux p) (sub_locks root h hs) → IsRest b p (u p)

  fail_at : (u : Slots) → Like u → MayFail b note.marks held u
  fail_at u like = fail_along b held (h ∷ hs) v u note.marks (λ p off. sym (like.off p off)) before.marks_off before.may_fail

  marks_off : AllByRecursion (λ (m : Mark). Crosses m.on hs → ⊥) note.marks
  marks_off = marks_tail h hs note.marks before.marks_off

  own_unmarked : IsUnmarked h.on note.marks
  own_unmarked = unmarked_off (h ∷ hs) h.on note.marks (inl refl) before.marks_off

  not_on : (p : ℕ) → (Crosses p (h ∷ hs) → ⊥) → p ≡ h.on → ⊥
  not_on p off e = off (inl (sym e))

  off_tail : (p : ℕ) → (Crosses p (h ∷ hs) → ⊥) → Crosses p hs → ⊥
  off_tail p off c = off (inr c)

  -- a control message of a mux on the bus
  control_before : (u : Slots) (j : Job) (m : Mark) (ms : List Mark)
      → ((p : ℕ) → InLocks (lock.Mux p) (sub_locks root h hs) → IsRest b p (u p)) → job_bus j ≡ h.on → OwnsOff j hs → FindsFirst b j u
      → m.on ≡ h.on → home_of_mux b m.mux ≡ h.on → IsOfMux m.mux (u h.on).slot
      → Owns j (m ∷ ms) held → CallUnmarked j (m ∷ ms) → IsGranted b whose j
      → MayFail b ms held u → AllByRecursion (λ (x : Mark). Crosses x.on hs → ⊥) ms
      → (is_line j ≡ true → InLocks (lock.Bus root) (locks_of root hs))
      → Before b whose root hs (sub_locks root h hs) floor j (m ∷ ms) held u
  control_before u j m ms rest bus owns_off finds on_bus home forgets owns unmarked granted fail off line =
      record {
        locks = λ l i. before.locks l (inr i);
        ranks = before.ranks;
        rest = rest;
        finds = finds;
        owns = owns;
        owns_off = owns_off;
        way = λ g a. inl (subst (λ (xs : List Hop). IsAmongHops g xs) (ap (λ (i : ℕ). hops b i) bus ∙ way_on) a);
        same_root = ap (λ (i : ℕ). root_of b i) bus ∙ root_on;
        may_fail = (
          record {
            locked = subst (λ (i : ℕ). InLocks (lock.Mux i) held) (sym on_bus) own_held;
            at_home = home ∙ sym on_bus;
            forgets = subst (λ (i : ℕ). IsOfMux m.mux (u i).slot) (sym on_bus) forgets;
          },
          fail,
        );
        marks_off = (λ c. off_on (subst (λ (i : ℕ). Crosses i hs) on_bus c), off);
        call_unmarked = unmarked;
        granted = granted;
        line_rooted = line;
      }

  abbrev own_mark : Mark
  own_mark = record { on = h.on; mux = h.mux }

  own_kept : is_left_open b h.mux ≡ true → Responds b h → IsKept b h.on h.mux
  own_kept stays responds = (
    is_hop.home,
    stays,
    subst (λ (kind : MuxKind). (is_gpio kind ≡ true) ⊎ (answers b h.mux ≡ true))
        (sym own_kind) responds,
  )

  -- THE DESELECT: whatever came of the job, what goes on runs
  deselect_rest : (o : JobOutcome) (x y : Slots) → IsOpenOn b h (x h.on) → ((is_gpio h.kind ≡ true) ⊎ AllRespond b hs)
      → CanJob b hs (SwitchOff (Deselect h)) o → y h.on ≡ job_after (SwitchOff (Deselect h)) (aside h).marks o x h.on
      → IsRest b h.on (y h.on)
  deselect_rest Good x y is_open way c e = subst (λ (z : At). IsRest b h.on z) (sym (e ∙ turned-same x h.on h.mux Clean None))
      (rest_shut b h.on h.mux (x h.on) is_open.others)
  deselect_rest Refused x y is_open way c e = subst (λ (z : At). IsRest b h.on z) (sym (e ∙ turned-same x h.on h.mux Clean None))
      (rest_shut b h.on h.mux (x h.on) is_open.others)
  deselect_rest Unsent x y is_open way c e =
      absurd (elim way [ inl gpio ↦ (let f : true ≡ false = sym gpio ∙ c.0 in cc) | inr all ↦ c.1 all ])
  deselect_rest Failed x y is_open way c e =
      subst (λ (z : At). IsRest b h.on z) (sym (e ∙ set_marks-head (record { on = h.on; mux = h.mux }) [] x))
      (rest_marked b h.on h.mux (x h.on) is_open.others is_hop.home own_known)

  same_lock : (p : ℕ) → lock.Mux p ≡ lock.Mux h.on → h.on ≡ p
  same_lock p e = cc

  deselect_after : (out o : JobOutcome) (x y : Slots) → IsOpenOn b h (x h.on)
      → ((p : ℕ) → (Crosses p (h ∷ hs) → ⊥) → x p ≡ job_after job note.marks out v p)
      → CanJob b (h ∷ hs) job out → ((is_gpio h.kind ≡ true) ⊎ AllRespond b hs)
      → After b hs (sub_locks root h hs) (SwitchOff (Deselect h)) (aside h).marks x o y → Runs b whose held y (k out)
  deselect_after out o x y is_open same can way after =
      goes_on out y (record {
        off = λ p off. after.off p (off_tail p off)
            ∙ job_after-off (SwitchOff (Deselect h)) (aside h).marks o x p (not_on p off) ((not_on p off, tt))
            ∙ same p off;
        rest = λ p i. elim i [
          | inl e ↦ subst (λ (q : ℕ). IsRest b q (y q)) (same_lock p e) (deselect_rest o x y is_open way after.can (after.off h.on off_on))
          | inr more ↦ after.rest p more
        ];
        can = can;
      })

  deselect_before : (x : Slots) → ((p : ℕ) → InLocks (lock.Mux p) (sub_locks root h hs) → IsRest b p (x p)) → IsOpenOn b h (x h.on)
      → Before b whose root hs (sub_locks root h hs) floor (SwitchOff (Deselect h)) (aside h).marks held x
  deselect_before x rest is_open =
      control_before x (SwitchOff (Deselect h)) (record { on = h.on; mux = h.mux }) [] rest refl off_on
      (is_open.clean, is_hop.home, is_hop.kind) refl is_hop.home
      (subst (λ (s : MuxSlot). IsOfMux h.mux s) (sym is_open.clean) tt)
      (own_held, (refl, refl, tt)) tt tt tt tt own_root

  -- THE JOB, where the channel is open
  job_before : (w : Slots) → Like w → IsOpenOn b h (w h.on) → Before b whose root hs (sub_locks root h hs) floor job note.marks held w
  job_before w like is_open =
      record {
        locks = λ l i. before.locks l (inr i);
        ranks = before.ranks;
        rest = like.rest;
        finds = finds_along b job v w (λ p own. sym (like.off p (own_crosses job (h ∷ hs) p before.owns_off own))) before.finds;
        owns = before.owns;
        owns_off = owns_off_tail job h hs before.owns_off;
        way = λ g a. elim (before.way g a) [
          | inl among_hops ↦ elim among_hops [
            | inl e ↦ inr (subst (λ (x : Hop). IsPassed b held w hs x) (sym e)
                (record { selected = is_open; locked = own_held; off = off_on }))
            | inr more ↦ inl more
          ]
          | inr passed ↦ inr (record {
            selected = subst (λ (x : At). IsOpenOn b g x) (sym (like.off g.on passed.off)) passed.selected;
            locked = passed.locked;
            off = off_tail g.on passed.off;
          })
        ];
        same_root = before.same_root;
        may_fail = fail_at w like;
        marks_off = marks_off;
        call_unmarked = before.call_unmarked;
        granted = before.granted;
        line_rooted = λ l. absurd (let f : false ≡ true = sym no_line ∙ l in cc);
      }

  -- what goes on after the job: a mux that stays as it is keeps its channel, any other is deselected
  behind_job : (t : Bool) → h.stays ≡ t → Responds b h → (t ≡ false → (is_gpio h.kind ≡ true) ⊎ AllRespond b hs)
      → (out : JobOutcome) (x : Slots) → IsOpenOn b h (x h.on) → ((p : ℕ) → InLocks (lock.Mux p) (sub_locks root h hs) → IsRest b p (x p))
      → ((p : ℕ) → (Crosses p (h ∷ hs) → ⊥) → x p ≡ job_after job note.marks out v p) → CanJob b (h ∷ hs) job out
      → Runs b whose held x (left_behind t h on k out)
  behind_job true stays responds way out x is_open rest off can =
      goes_on out x (record {
        off = off;
        rest = λ p i. elim i [
          | inl e ↦ subst (λ (q : ℕ). IsRest b q (x q)) (same_lock p e)
              (rest_open b h (x h.on) is_open (own_kept (is_hop.stays ∙ stays) responds))
          | inr more ↦ rest p more
        ];
        can = can;
      })
  behind_job false stays responds way out x is_open rest off can =
      sub (SwitchOff (Deselect h)) (aside h) (λ o. k out) held x (deselect_before x rest is_open)
      (λ o y done. deselect_after out o x y is_open off can (way refl) done)

  job_done : (w : Slots) → Like w → IsOpenOn b h (w h.on) → Responds b h → (h.stays ≡ false → (is_gpio h.kind ≡ true) ⊎ AllRespond b hs)
      → (out : JobOutcome) (x : Slots) → After b hs (sub_locks root h hs) job note.marks w out x
      → Runs b whose held x (left_behind h.stays h on k out)
  job_done w like is_open responds way out x after =
      let own_stays : x h.on ≡ w h.on =
      after.off h.on off_on ∙ job_after-off job note.marks out w h.on
      (λ own. own_crosses job (h ∷ hs) h.on before.owns_off own (inl refl)) own_unmarked in
      behind_job h.stays refl responds way out x (subst (λ (z : At). IsOpenOn b h z) (sym own_stays) is_open) after.rest
      (λ p off. after.off p (off_tail p off) ∙ job_after-along job note.marks out w v p (like.off p off))
      (can_more b h hs job out responds after.can)

  opened-runs : (w : Slots) → Like w → IsOpenOn b h (w h.on) → Responds b h → (h.stays ≡ false → (is_gpio h.kind ≡ true) ⊎ AllRespond b hs)
      → Runs b whose held w (opened h on job note k)
  opened-runs w like is_open responds way =
      sub job note (left_behind h.stays h on k) held w (job_before w like is_open) (job_done w like is_open responds way)

  -- THE SELECT, where the bus is clean
  like_select : (u w : Slots) (o : JobOutcome) → Like u → After b hs (sub_locks root h hs) (Select h) (own_mark ∷ note.marks) u o w
      → (o ≡ Failed → ⊥) → Like w
  like_select u w o like after good =
      record {
        off = λ p off. after.off p (off_tail p off) ∙ left o good p (not_on p off) ∙ like.off p off;
        rest = after.rest;
      }
    where
      left : (o : JobOutcome) → (o ≡ Failed → ⊥) → (p : ℕ) → (p ≡ h.on → ⊥) → job_after (Select h) (own_mark ∷ note.marks) o u p ≡ u p
      left Good bad p ne = turned-other u h.on h.mux p Clean (Some h.channel) ne
      left Refused bad p ne = turned-other u h.on h.mux p Clean None ne
      left Unsent bad p ne = refl
      left Failed bad p ne = absurd (bad refl)

  lost_after : (w : Slots) → Like w → IsRest b h.on (w h.on) → CanJob b (h ∷ hs) job Unsent → Runs b whose held w (k Unsent)
  lost_after w like rest can =
      goes_on Unsent w (record {
        off = λ p off. like.off p off ∙ sym (job_after-unsent job note.marks v p);
        rest = λ p i. elim i [ inl e ↦ subst (λ (q : ℕ). IsRest b q (w q)) (same_lock p e) rest | inr more ↦ like.rest p more ];
        can = can;
      })

  failed_after : (u w : Slots) (m : Mark) → Like u → IsRest b h.on (u h.on) → m.on ≡ h.on → home_of_mux b m.mux ≡ h.on
      → IsMuxOf b m.mux (kind_of b m.mux)
      → ((p : ℕ) → (Crosses p hs → ⊥) → w p ≡ set_marks (m ∷ note.marks) u p)
      → ((p : ℕ) → InLocks (lock.Mux p) (sub_locks root h hs) → IsRest b p (w p))
      → Runs b whose held w (k Failed)
  failed_after u w m like own_rest on_bus home known marked rest =
      goes_on Failed w (record {
        off = λ p off. marked p (off_tail p off)
            ∙ changed-other (set_marks note.marks u) m.on p (turned_at (u m.on) m.mux (Marked m.mux) None) (λ e. not_on p off (e ∙ on_bus))
            ∙ set_marks-along note.marks u v p (like.off p off)
            ∙ sym (job_after-failed job note.marks v p before.call_unmarked);
        rest = λ p i. elim i [
          | inl e ↦ subst (λ (q : ℕ). IsRest b q (w q)) (same_lock p e)
              (subst (λ (z : At). IsRest b h.on z) (sym own_marked)
              (rest_marked b h.on m.mux (u h.on) (others_rest b h.on m.mux (u h.on) own_rest) home known))
          | inr more ↦ rest p more
        ];
        can = tt;
      })
    where
      own_marked : w h.on ≡ turned_at (u h.on) m.mux (Marked m.mux) None
      own_marked =
          marked h.on off_on ∙ ap (λ (i : ℕ). set_marks (m ∷ note.marks) u i) (sym on_bus) ∙ set_marks-head m note.marks u
          ∙ ap (λ (i : ℕ). turned_at (u i) m.mux (Marked m.mux) None) on_bus

  select_before : (u : Slots) → Like u → IsRest b h.on (u h.on) → (u h.on).slot ≡ Clean
      → Before b whose root hs (sub_locks root h hs) floor (Select h) (own_mark ∷ note.marks) held u
  select_before u like rest clean =
      control_before u (Select h) own_mark note.marks like.rest refl off_on ((clean, arb_shut), among_own, bus_there) refl is_hop.home
      (subst (λ (s : MuxSlot). IsOfMux h.mux s) (sym clean) tt)
      (own_held, (refl, refl, own_unmarked)) tt tt (fail_at u like) marks_off own_root
    where
      none : (kept : Option ℕ) → (u h.on).kept h.mux ≡ kept → is_left_open b h.mux ≡ false → kept ≡ None
      none None e shut = refl
      none (Some c) e shut = absurd (let f : false ≡ true = sym shut ∙ (rest.stay h.mux c e).1 in cc)

      arb_shut : is_arbitrator h.kind ≡ true → (u h.on).kept h.mux ≡ None
      arb_shut arb = none ((u h.on).kept h.mux) refl (tree.asking h.mux (ap is_arbitrator own_kind ∙ arb))

  chosen_done : (u : Slots) → Like u → IsRest b h.on (u h.on) → (o : JobOutcome) (w : Slots)
      → After b hs (sub_locks root h hs) (Select h) (own_mark ∷ note.marks) u o w
      → Runs b whose held w (if_good o (opened h on job note k) k)
  chosen_done u like rest Good w after =
      opened-runs w (like_select u w Good like after (λ e. let f : Good ≡ Failed = e in cc))
      (subst (λ (z : At). IsOpenOn b h z) (sym (after.off h.on off_on ∙ turned-same u h.on h.mux Clean (Some h.channel)))
      (open_of b h (u h.on) (others_rest b h.on h.mux (u h.on) rest)))
      (elim after.can [ inl gpio ↦ inl gpio | inr sent ↦ inr sent.1 ])
      (λ stays. elim after.can [ inl gpio ↦ inl gpio | inr sent ↦ inr sent.0 ])
  chosen_done u like rest Refused w after =
      lost_after w (like_select u w Refused like after (λ e. let f : Refused ≡ Failed = e in cc))
      (subst (λ (z : At). IsRest b h.on z) (sym (after.off h.on off_on ∙ turned-same u h.on h.mux Clean None))
      (rest_shut b h.on h.mux (u h.on) (others_rest b h.on h.mux (u h.on) rest))) (
        no_line,
        λ all. elim all.0 [
          | inl gpio ↦ (let f : true ≡ false = sym gpio ∙ after.can.0 in cc)
          | inr ans ↦ (let f : true ≡ false = sym ans ∙ after.can.2 in cc)
        ],
      )
  chosen_done u like rest Unsent w after =
      lost_after w (like_select u w Unsent like after (λ e. let f : Unsent ≡ Failed = e in cc))
      (subst (λ (z : At). IsRest b h.on z) (sym (after.off h.on off_on)) rest)
      (no_line, λ all. after.can.1 all.1)
  chosen_done u like rest Failed w after =
      failed_after u w own_mark like rest refl is_hop.home own_known (λ p off. after.off p off) after.rest

  chosen-runs : (u : Slots) → Like u → IsRest b h.on (u h.on) → (u h.on).slot ≡ Clean → Runs b whose held u (chosen h on job note k)
  chosen-runs u like rest clean =
      sub (Select h) (with_mark h.on h.mux note) (λ o. if_good o (opened h on job note k) k) held u (select_before u like rest clean)
      (chosen_done u like rest)

  -- THE LOOK at the channel that the mux keeps
  crossed-runs : (u : Slots) → Like u → IsRest b h.on (u h.on) → (u h.on).slot ≡ Clean → (kept : Option ℕ) → (u h.on).kept h.mux ≡ kept
      → Runs b whose held u (crossed h on job note k kept)
  crossed-runs u like rest clean None e = chosen-runs u like rest clean
  crossed-runs u like rest clean (Some c) e = by (h.stays && eqb c h.channel) refl
    where
      by : (t : Bool) → (h.stays && eqb c h.channel) ≡ t → Runs b whose held u (cond t (opened h on job note k) (chosen h on job note k))
      by false f = chosen-runs u like rest clean
      by true f =
          let own : IsKept b h.on h.mux = rest.stay h.mux c e in
          opened-runs u like
          (record {
            clean = clean;
            kept = e ∙ ap Some (eqb-true c h.channel (and_last h.stays (eqb c h.channel) f));
            others = others_rest b h.on h.mux (u h.on) rest;
          })
          (subst (λ (kind : MuxKind). (is_gpio kind ≡ true) ⊎ (answers b h.mux ≡ true)) own_kind own.2)
          (λ n. absurd (let g : true ≡ false = sym (and_first h.stays (eqb c h.channel) f) ∙ n in cc))

  look-runs : (u : Slots) → Like u → IsRest b h.on (u h.on) → (u h.on).slot ≡ Clean
      → Runs b whose held u (Look (KeptOf h.on h.mux) (crossed h on job note k))
  look-runs u like rest clean = (own_held, crossed-runs u like rest clean ((u h.on).kept h.mux) refl)

  -- THE CLOSE of a marked mux comes first
  like_now : Like v
  like_now = record { off = λ p off. refl; rest = λ p i. before.rest p (inr i) }

  rest_now : IsRest b h.on (v h.on)
  rest_now = before.rest h.on (inl refl)

  abbrev close_mark : ℕ → Mark
  close_mark m = record { on = h.on; mux = m }

  close_before : (m : ℕ) → (v h.on).slot ≡ Marked m
      → Before b whose root hs (sub_locks root h hs) floor (SwitchOff (Close h.on m (kind_of b m))) (close_mark m ∷ note.marks) held v
  close_before m marked =
      let home : home_of_mux b m ≡ h.on = rest_now.home m marked in
      control_before v (SwitchOff (Close h.on m (kind_of b m))) (close_mark m) note.marks (λ p i. before.rest p (inr i)) refl off_on
      (marked, home, rest_now.known m marked) refl home
      (subst (λ (s : MuxSlot). IsOfMux m s) (sym marked) refl)
      (own_held, (refl, refl, own_unmarked)) tt tt before.may_fail marks_off (λ l. line_root m home l)

  like_closed : (m : ℕ) (w : Slots) → ((p : ℕ) → (Crosses p hs → ⊥) → w p ≡ turned v h.on m Clean None p)
      → ((p : ℕ) → InLocks (lock.Mux p) (sub_locks root h hs) → IsRest b p (w p)) → Like w
  like_closed m w off rest =
      record { off = λ p o. off p (off_tail p o) ∙ turned-other v h.on m p Clean None (not_on p o); rest = rest }

  -- the bus is clean behind it, and the mux that was marked is shut
  after_close : (m : ℕ) (w : Slots) → ((p : ℕ) → (Crosses p hs → ⊥) → w p ≡ turned v h.on m Clean None p)
      → ((p : ℕ) → InLocks (lock.Mux p) (sub_locks root h hs) → IsRest b p (w p))
      → Runs b whose held w (Look (KeptOf h.on h.mux) (crossed h on job note k))
  after_close m w off rest =
      let own : w h.on ≡ turned_at (v h.on) m Clean None = off h.on off_on ∙ turned-same v h.on m Clean None in
      look-runs w (like_closed m w off rest)
      (subst (λ (z : At). IsRest b h.on z) (sym own) (rest_shut b h.on m (v h.on) (others_rest b h.on m (v h.on) rest_now)))
      (slot_of (w h.on) (turned_at (v h.on) m Clean None) Clean own refl)

  closed : (m : ℕ) → (v h.on).slot ≡ Marked m → (o : JobOutcome) (w : Slots)
      → After b hs (sub_locks root h hs) (SwitchOff (Close h.on m (kind_of b m))) (close_mark m ∷ note.marks) v o w
      → Runs b whose held w (if_sent o (Look (KeptOf h.on h.mux) (crossed h on job note k)) k)
  closed m marked Good w after = after_close m w (λ p off. after.off p off) after.rest
  closed m marked Refused w after = after_close m w (λ p off. after.off p off) after.rest
  closed m marked Unsent w after =
      lost_after w (record { off = λ p off. after.off p (off_tail p off); rest = after.rest })
      (subst (λ (x : At). IsRest b h.on x) (sym (after.off h.on off_on)) rest_now)
      (no_line, λ all. after.can.1 all.1)
  closed m marked Failed w after =
      failed_after v w (close_mark m) like_now rest_now refl (rest_now.home m marked) (rest_now.known m marked)
      (λ p off. after.off p off) after.rest

  closing-runs : (mark : Option ℕ) → mark_in (v h.on).slot ≡ mark
      → Runs b whose held v (closing b h on note k (Look (KeptOf h.on h.mux) (crossed h on job note k)) mark)
  closing-runs None e = look-runs v like_now rest_now (shut_clean (v h.on).slot rest_now.shut e)
  closing-runs (Some m) e =
      let marked : (v h.on).slot ≡ Marked m = marked_slot (v h.on).slot m e in
      sub (SwitchOff (Close h.on m (kind_of b m))) (with_mark h.on m note)
      (λ o. if_sent o (Look (KeptOf h.on h.mux) (crossed h on job note k)) k) held v (close_before m marked) (closed m marked)

  pub behind-runs : Runs b whose held v (behind b h on job note k)
  behind-runs = (own_held, closing-runs (mark_in (v h.on).slot) refl)
