-- The locks of a whole walk. The inductions go over the messages of a job, over the locks of a path, and over its hops.
use Rattle.bus_laws.proofs.Cited.{◌≡◌, ℕ, zero, suc, ◌<◌, ◌≤◌, Bool, true, false, cond, ◌&&◌, List, [], ◌∷◌, length, Option, Some, None}
use Rattle.bus_laws.proofs.Cited.{refl, sym, ◌∙◌, ap, subst, inl, inr, arith, unwrap_or, AllByRecursion, option_map, ltb-true, MuxSpec}
use Rattle.bus_laws.proofs.Cited.{Pca9548, LockId, Errno, BoardView, TransferView, Hop, hops, buses, root_of, locks_of, home_of_mux}
use Rattle.bus_laws.proofs.Cited.{IsAmongHops, IsTree, messages_of, refusal, Mark, Job, Call, Select, SwitchOff, Deselect, Close, Free}
use Rattle.bus_laws.proofs.Cited.{Send, Shift, ActOutcome, JobOutcome, Note, KeptOf, WalkTree, Ends, Look, Then, goes, job_bus, job_outcome}
use Rattle.bus_laws.proofs.Cited.{verdict_of, decides, is_line, is_gpio, more_of, Doer, plain, settled, over, messages, at_bus, locked}
use Rattle.bus_laws.proofs.Cited.{part, with_mark, aside, if_sent, if_good, kind_of, closing, left_behind, opened, chosen, keeps, crossed}
use Rattle.bus_laws.proofs.Cited.{behind, inner, walk_by, walk_for, rank, InLocks, IsUnmarked, LinesAreLocked, IsMarkOn, HoldsLocks}
use Rattle.i2c_base.specs.declared.ids.LockId.TheVariants as lock
use Rattle.bus_laws.proofs.world.BoardFacts.{mux_at}
use Rattle.bus_laws.proofs.tree.Law.{refusal-none}
use Rattle.bus_laws.proofs.tree.Path.{ground, sub_locks, bus_among}
use Rattle.bus_laws.proofs.tree.Falls.{Falls, floor_after, gathered, is_below_all, in_gathered, path_falls, path_floor}
use Rattle.bus_laws.proofs.walk.Keeps.{by_go-keeps, if_good-keeps, if_sent-keeps}
use Rattle.bus_laws.proofs.walk.Jobs.{hop_before}
use Rattle.bus_laws.specs.Holds.{IsLockOf, OwnHeld, MarksHeld, AreApart, SendsIn}

-- what a job at the end of some hops needs: `ls` are the locks of these hops that are held, `floor` the least rank held
record Needs (b : BoardView) (root : ℕ) (hs : List Hop) (ls : List LockId) (floor : ℕ) (job : Job) (marks : List Mark)
    (held : List LockId) : Type 0 where
  locks : (l : LockId) → InLocks l ls → InLocks l held
  ranks : (l : LockId) → InLocks l held → floor ≤ rank b l
  own : OwnHeld b job held
  marked : MarksHeld b marks held
  apart : AreApart marks
  off : (g : Hop) → IsAmongHops g hs → IsUnmarked g.on marks
  same_root : root_of b (job_bus job) ≡ root
  line_rooted : is_line job ≡ true → InLocks (lock.Bus root) (locks_of root hs)

abbrev DoerHolds : BoardView → ℕ → List Hop → List LockId → ℕ → Doer → Type 0
DoerHolds b root hs ls floor on =
    (job : Job) (note : Note) (k : JobOutcome → WalkTree) (held : List LockId) → Needs b root hs ls floor job note.marks held
    → ((o : JobOutcome) → HoldsLocks b held (k o)) → HoldsLocks b held (on job note k)

module _ (b : BoardView) (held : List LockId) where
  settled_holds : (x : Bool) (verdict : Option Errno) (w : WalkTree) → HoldsLocks b held w → HoldsLocks b held (settled x verdict w)
  settled_holds true verdict w h = h
  settled_holds false verdict w h = h

  over_holds : (job : Job) (left : ℕ) (note : Note) (k : JobOutcome → WalkTree) → ((o : JobOutcome) → HoldsLocks b held (k o))
      → (out : ActOutcome) → HoldsLocks b held (over job left note k out)
  over_holds job left note k hk out =
      settled_holds (note.forward && decides job (job_outcome job left out)) (verdict_of job left out) (k (job_outcome job left out))
      (hk (job_outcome job left out))

  messages_hold : (left : ℕ) (job : Job) (note : Note) (k : JobOutcome → WalkTree) → SendsIn b job note.marks held
      → ((o : JobOutcome) → HoldsLocks b held (k o)) → HoldsLocks b held (messages left job note k)
  messages_hold zero job note k sends hk = (sends, over_holds job zero note k hk)
  messages_hold (suc left) job note k sends hk = (
    sends,
    λ out. by_go-keeps (HoldsLocks b held) (goes job left out) (messages left job note k) (Then (Send job zero) note (over job zero note k))
        (over job (suc left) note k out)
        (messages_hold left job note k sends hk) (sends, over_holds job zero note k hk) (over_holds job (suc left) note k hk out),
  )

  bus_holds : (job : Job) (note : Note) (k : JobOutcome → WalkTree) → SendsIn b job note.marks held
      → ((o : JobOutcome) → HoldsLocks b held (k o)) → HoldsLocks b held (at_bus job note k)
  bus_holds job note k sends hk = by (is_line job)
    where
      by : (x : Bool) → HoldsLocks b held (cond x (Then (Shift job) note (over job zero note k)) (messages (more_of job) job note k))
      by true = (sends, over_holds job zero note k hk)
      by false = messages_hold (more_of job) job note k sends hk

-- LOCKS
own_more : (b : BoardView) (l : LockId) (job : Job) (held : List LockId) → OwnHeld b job held → OwnHeld b job (l ∷ held)
own_more b l (Call bus ms) held o = tt
own_more b l (Select h) held o = (inr o.0, o.1, o.2)
own_more b l (SwitchOff off) held o = (inr o.0, o.1)

marks_more : (b : BoardView) (l : LockId) (held : List LockId) (ms : List Mark) → MarksHeld b ms held → MarksHeld b ms (l ∷ held)
marks_more b l held [] h = tt
marks_more b l held (m ∷ ms) h = ((inr h.0.0, h.0.1), marks_more b l held ms h.1)

module _ (b : BoardView) (root : ℕ) (hs : List Hop) where
  -- the induction over the locks
  take_holds : (ls got : List LockId) (floor : ℕ) (on : Doer) → Falls b floor ls → AllByRecursion (IsLockOf b) ls
      → DoerHolds b root hs (gathered ls got) (floor_after b floor ls) on → DoerHolds b root hs got floor (locked ls on)
  take_holds [] got floor on falls there sub = sub
  take_holds (l ∷ ls) got floor on falls there sub =
      λ job note k held before hk. (
        there.0,
        is_below_all b l held (λ j i. let floor_j : floor ≤ rank b j = before.ranks j i in omega (arith, falls.0, floor_j)),
        take_holds ls (l ∷ got) (rank b l) on falls.1 there.1 sub job note (λ out. Then (Free l) plain (λ o. k out)) (l ∷ held)
            (record {
              locks = λ j i. elim i [ inl e ↦ inl e | inr more ↦ inr (before.locks j more) ];
              ranks = λ j i. elim i [
                | inl e ↦ subst (λ (x : LockId). rank b l ≤ rank b x) (sym e) (omega arith)
                | inr more ↦ (let floor_j : floor ≤ rank b j = before.ranks j more in omega (arith, falls.0, floor_j))
              ];
              own = own_more b l job held before.own;
              marked = marks_more b l held note.marks before.marked;
              apart = before.apart;
              off = before.off;
              same_root = before.same_root;
              line_rooted = before.line_rooted;
            })
            (λ o. (held, refl, hk o)),
      )

  fewer_locks : (ls ms : List LockId) (floor : ℕ) (on : Doer) → ((l : LockId) → InLocks l ls → InLocks l ms)
      → DoerHolds b root hs ls floor on → DoerHolds b root hs ms floor on
  fewer_locks ls ms floor on there sub =
      λ job note k held before hk.
      sub job note k held
      (record {
        locks = λ l i. before.locks l (there l i);
        ranks = before.ranks;
        own = before.own;
        marked = before.marked;
        apart = before.apart;
        off = before.off;
        same_root = before.same_root;
        line_rooted = before.line_rooted;
      }) hk

module _ (b : BoardView) (tree : IsTree b) (root : ℕ) where
  -- the locks of a path are the board's
  path_there : (hs : List Hop) (s : ℕ) → hops b s ≡ hs → s < buses b → root < length b.roots
      → AllByRecursion (IsLockOf b) (locks_of root hs)
  path_there [] s at there rooted = (rooted, tt)
  path_there (h ∷ hs) s at there rooted =
      let low : h.on < s = (tree.leads s h hs at).1 in
      (omega (arith, low, there), by h.parent (path_there hs h.on (tree.tail s h hs at) (omega (arith, low, there)) rooted))
    where
      by : (t : Bool) → AllByRecursion (IsLockOf b) (locks_of root hs) → AllByRecursion (IsLockOf b) (cond t (locks_of root hs) [])
      by true all = all
      by false all = tt

  locked_holds : (hs : List Hop) (s : ℕ) (on : Doer) → hops b s ≡ hs → s < buses b → root < length b.roots
      → DoerHolds b root hs (locks_of root hs) (ground hs) on
      → DoerHolds b root hs [] (suc (length hs)) (locked (locks_of root hs) on)
  locked_holds hs s on at there rooted sub =
      take_holds b root hs (locks_of root hs) [] (suc (length hs)) on (path_falls b tree root hs s (suc (length hs)) at (omega arith))
      (path_there hs s at there rooted)
      (subst (λ (f : ℕ). DoerHolds b root hs (gathered (locks_of root hs) []) f on) (sym (path_floor b tree root hs s (suc (length hs)) at))
      (fewer_locks b root hs (locks_of root hs) (gathered (locks_of root hs) []) (ground hs) on
      (λ l i. in_gathered (locks_of root hs) [] l (inl i)) sub))

  part_holds : (hs : List Hop) (s : ℕ) (on : Doer) → hops b s ≡ hs → s < buses b → root < length b.roots
      → DoerHolds b root hs (locks_of root hs) (ground hs) on
      → (t : Bool) → DoerHolds b root hs (cond t (locks_of root hs) []) (cond t (ground hs) (suc (length hs)))
      (part t (locks_of root hs) on)
  part_holds hs s on at there rooted sub true = sub
  part_holds hs s on at there rooted sub false = locked_holds hs s on at there rooted sub

  module _ (lines : LinesAreLocked b) where
    -- a line step on the bus of a hop has the root's lock
    line_lock : (h : Hop) (hs : List Hop) (m : ℕ) → hops b h.on ≡ hs → home_of_mux b m ≡ h.on → is_gpio (kind_of b m) ≡ true
        → InLocks (lock.Bus root) (locks_of root hs)
    line_lock h hs m at home gpio =
        bus_among root hs (λ g a. lines m g gpio
        (subst (λ (p : ℕ). IsAmongHops g (hops b p)) (sym home) (subst (λ (xs : List Hop). IsAmongHops g xs) (sym at) a)))

    -- ONE HOP
    module _ (h : Hop) (hs : List Hop) (s : ℕ) (at : hops b s ≡ h ∷ hs) (there : s < buses b) (same : root_of b s ≡ root) (floor : ℕ)
        (on : Doer)
        (sub : DoerHolds b root hs (sub_locks root h hs) floor on) where
      among : IsAmongHops h (hops b s)
      among = subst (λ (xs : List Hop). IsAmongHops h xs) (sym at) (inl refl)

      on_root : root_of b h.on ≡ root
      on_root = tree.root_same s h among ∙ same

      kind_is : kind_of b h.mux ≡ h.kind
      kind_is =
          let spec = mux_at b h.mux h.kind (tree.hop s h among).kind in
          ap (λ (o : Option MuxSpec). unwrap_or (option_map (λ (x : MuxSpec). x.kind) o) Pca9548) spec.1 ∙ spec.2

      home : home_of_mux b h.mux ≡ h.on
      home = (tree.hop s h among).home

      -- the hops before it stand on other buses
      below : (g : Hop) → IsAmongHops g hs → g.on ≡ h.on → ⊥
      below g a e = (let less : g.on < h.on = hop_before b tree hs h.on (tree.tail s h hs at) g a in omega (arith, less, e))

      -- a control job on the bus of the hop
      module _ (held : List LockId) (locks : (l : LockId) → InLocks l (locks_of root (h ∷ hs)) → InLocks l held) (ranks : (l : LockId)
          → InLocks l held → floor ≤ rank b l) where
        mine : InLocks (lock.Mux h.on) held
        mine = locks (lock.Mux h.on) (inl refl)

        switch : (job : Job) (marks : List Mark) → OwnHeld b job held → job_bus job ≡ h.on → MarksHeld b marks held → AreApart marks
            → ((g : Hop) → IsAmongHops g hs → IsUnmarked g.on marks) → (is_line job ≡ true → InLocks (lock.Bus root) (locks_of root hs))
            → Needs b root hs (sub_locks root h hs) floor job marks held
        switch job marks own bus marked apart off line =
            record {
              locks = λ l i. locks l (inr i);
              ranks = ranks;
              own = own;
              marked = marked;
              apart = apart;
              off = off;
              same_root = ap (root_of b) bus ∙ on_root;
              line_rooted = line;
            }

        module _ (job : Job) (note : Note) (k : JobOutcome → WalkTree) (no_line : is_line job ≡ false) (own : OwnHeld b job held)
            (marked : MarksHeld b note.marks held)
            (marks_apart : AreApart note.marks) (marks_off : (g : Hop) → IsAmongHops g (h ∷ hs) → IsUnmarked g.on note.marks)
            (job_root : root_of b (job_bus job) ≡ root) (hk : (o : JobOutcome) → HoldsLocks b held (k o)) where
          job_before : Needs b root hs (sub_locks root h hs) floor job note.marks held
          job_before =
              record {
                locks = λ l i. locks l (inr i);
                ranks = ranks;
                own = own;
                marked = marked;
                apart = marks_apart;
                off = λ g a. marks_off g (inr a);
                same_root = job_root;
                line_rooted = λ l. absurd (let f : false ≡ true = sym no_line ∙ l in cc);
              }

          left_holds : (stays : Bool) (out : JobOutcome) → HoldsLocks b held (left_behind stays h on k out)
          left_holds true out = hk out
          left_holds false out =
              sub (SwitchOff (Deselect h)) (aside h) (λ o. k out) held
              (switch (SwitchOff (Deselect h)) (aside h).marks (mine, home) refl ((mine, home), tt) (tt, tt) (λ g a. (below g a, tt))
              (λ l. line_lock h hs h.mux (tree.tail s h hs at) home (ap is_gpio kind_is ∙ l)))
              (λ o. hk out)

          opened_holds : HoldsLocks b held (opened h on job note k)
          opened_holds = sub job note (left_behind h.stays h on k) held job_before (left_holds h.stays)

          chosen_holds : HoldsLocks b held (chosen h on job note k)
          chosen_holds =
              sub (Select h) (with_mark h.on h.mux note) (λ o. if_good o (opened h on job note k) k) held
              (switch (Select h) (with_mark h.on h.mux note).marks (mine, home, (tree.hop s h among).mux) refl ((mine, home), marked)
              (marks_off h (inl refl), marks_apart) (λ g a. (below g a, marks_off g (inr a)))
              (λ l. line_lock h hs h.mux (tree.tail s h hs at) home (ap is_gpio kind_is ∙ l)))
              (λ o. if_good-keeps (HoldsLocks b held) o (opened h on job note k) k opened_holds hk)

          crossed_holds : (m : Option ℕ) → HoldsLocks b held (crossed h on job note k m)
          crossed_holds m = by (keeps h m)
            where
              by : (x : Bool) → HoldsLocks b held (cond x (opened h on job note k) (chosen h on job note k))
              by true = opened_holds
              by false = chosen_holds

          abbrev passing : WalkTree
          passing = Look (KeptOf h.on h.mux) (crossed h on job note k)

          passing_holds : HoldsLocks b held passing
          passing_holds = (mine, home, λ m is. crossed_holds m)

          closing_holds : (m : Option ℕ) → IsMarkOn b h.on m → HoldsLocks b held (closing b h on note k passing m)
          closing_holds None is = passing_holds
          closing_holds (Some m) is =
              sub (SwitchOff (Close h.on m (kind_of b m))) (with_mark h.on m note) (λ o. if_sent o passing k) held
              (switch (SwitchOff (Close h.on m (kind_of b m))) (with_mark h.on m note).marks (mine, is) refl ((mine, is), marked)
              (marks_off h (inl refl), marks_apart) (λ g a. (below g a, marks_off g (inr a)))
              (λ l. line_lock h hs m (tree.tail s h hs at) is l))
              (λ o. if_sent-keeps (HoldsLocks b held) o passing k passing_holds hk)

          behind_holds : HoldsLocks b held (behind b h on job note k)
          behind_holds = (mine, tt, closing_holds)

    -- THE INDUCTION over the hops
    inner_holds : (hs : List Hop) (s : ℕ) → hops b s ≡ hs → s < buses b → root_of b s ≡ root → root < length b.roots
        → DoerHolds b root hs (locks_of root hs) (ground hs) (inner b root hs)
    inner_holds [] s at there same rooted =
        λ job note k held before hk.
        bus_holds b held job note k
        (record {
          rooted = subst (λ (r : ℕ). InLocks (lock.Bus r) held) (sym before.same_root) (before.locks (lock.Bus root) (inl refl));
          own = before.own;
          marked = before.marked;
          apart = before.apart;
        }) hk
    inner_holds (h ∷ hs) s at there same rooted =
        λ job note k held before hk.
        by job note k held before hk (is_line job) refl
        (part_holds hs h.on (inner b root hs) (tree.tail s h hs at) low rooted
        (inner_holds hs h.on (tree.tail s h hs at) low (tree.root_same s h (subst (λ (xs : List Hop). IsAmongHops h xs) (sym at) (inl refl))
        ∙ same) rooted) h.parent)
      where
        low : h.on < buses b
        low = (let less : h.on < s = (tree.leads s h hs at).1 in omega (arith, less, there))

        by : (job : Job) (note : Note) (k : JobOutcome → WalkTree) (held : List LockId)
            → Needs b root (h ∷ hs) (locks_of root (h ∷ hs)) (ground (h ∷ hs)) job note.marks held
            → ((o : JobOutcome) → HoldsLocks b held (k o)) → (t : Bool) → is_line job ≡ t
            → DoerHolds b root hs (sub_locks root h hs) (ground (h ∷ hs)) (part h.parent (locks_of root hs) (inner b root hs))
            → HoldsLocks b held (cond t (at_bus job note k) (behind b h (part h.parent (locks_of root hs) (inner b root hs)) job note k))
        by job note k held before hk true line sub =
            bus_holds b held job note k
            (record {
              rooted = subst (λ (r : ℕ). InLocks (lock.Bus r) held) (sym before.same_root)
                  (before.locks (lock.Bus root) (before.line_rooted line));
              own = before.own;
              marked = before.marked;
              apart = before.apart;
            }) hk
        by job note k held before hk false line sub =
            behind_holds h hs s at there same (ground (h ∷ hs))
            (part h.parent (locks_of root hs) (inner b root hs)) sub held before.locks before.ranks job note k line before.own
            before.marked before.apart before.off
            before.same_root hk

-- the whole walk of a transfer holds no lock before it and after it
pub walk-holds : (b : BoardView) → IsTree b → LinesAreLocked b → (t : TransferView) → HoldsLocks b [] (walk_for b t)
walk-holds b tree lines t = by (refusal b t) refl
  where
    by : (o : Option Errno) → refusal b t ≡ o → HoldsLocks b [] (walk_by b t o)
    by (Some e) refused = refl
    by None refused =
        let there : t.bus < buses b = ltb-true t.bus (buses b) (refusal-none b t refused).0 in
        let rooted : root_of b t.bus < length b.roots = tree.root_is t.bus there in
        locked_holds b tree (root_of b t.bus) (hops b t.bus) t.bus (inner b (root_of b t.bus) (hops b t.bus)) refl there rooted
        (inner_holds b tree (root_of b t.bus) lines (hops b t.bus) t.bus refl there refl rooted)
        (Call t.bus (messages_of t)) plain (λ o. Ends) []
        (record {
          locks = λ l i. i;
          ranks = λ l i. absurd i;
          own = tt;
          marked = tt;
          apart = tt;
          off = λ g a. tt;
          same_root = refl;
          line_rooted = λ l. absurd (let f : false ≡ true = l in cc);
        })
        (λ o. refl)
