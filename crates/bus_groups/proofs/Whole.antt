-- The cores of groups that ran are as one core that ran. The inductions go over scripts and over groups.
use Rattle.bus_groups.proofs.Cited.{◌≡◌, ℕ, zero, suc, ◌<◌, Bool, true, false, cond, IsTrue, List, [], ◌∷◌, map, reverse, Option, Some}
use Rattle.bus_groups.proofs.Cited.{None, refl, sym, ◌∙◌, ap, subst, inl, inr, slice_get, eqb_tells, Entry, Reply, BoardView, root_of}
use Rattle.bus_groups.proofs.Cited.{IsTree, script_at, CoreState, AllThrough, roots_in, has_caller, joined, ArePartsApart, IsTold, has_root}
use Rattle.bus_groups.proofs.Cited.{part_of, IsOfGroup, AreOfGroups, IsWhole}
use Rattle.std.specs.Option.{option_map_or}
use Rattle.i2c_base.specs.Limits.{MOST_CALLERS}
use Rattle.i2c_base.specs.Transfer.{TransferView}
use Rattle.i2c_spec.specs.Tree.{buses}
use Rattle.i2c_spec.specs.History.{Asks}
use Rattle.bus_spec.specs.Past.{Now, now}
use Rattle.bus_spec.specs.Walk.{Ends}
use Rattle.bus_spec.specs.Stepwise.{IsStepwise}
use Rattle.bus_core.specs.Places.{asks_of}
use Rattle.bus_core.specs.State.{IsThrough, asks_in_state}
use Rattle.group_laws.specs.Groups.{IsGroup, IsAlike, IsPart, AreParts, AreAlikeIn, AreJoined}
use Rattle.group_laws.proofs.Joins.{are-joined}
use Rattle.bus_core.proofs.Kept.{script-found}

-- who isn't there has no script
none-there : {S : Type 0} (ss : List (ℕ × S)) (c : ℕ) → has_caller ss c ≡ false → script_at ss c ≡ None
none-there [] c isnt = refl
none-there (s ∷ ss) c isnt =
    elim (eqb_tells s.0 c) [
      | inl is ↦ absurd (let f : true ≡ false = sym (ap (λ (t : Bool). cond t true (has_caller ss c)) is.0) ∙ isnt in cc)
      | inr other ↦
          ap (λ (t : Bool). cond t (Some s.1) (script_at ss c)) other.0
          ∙ none-there ss c (sym (ap (λ (t : Bool). cond t true (has_caller ss c)) other.0) ∙ isnt)
    ]

module _ {S : Type 0} (asked : S → List Reply → Option TransferView) (tells : Bool) (b : BoardView) (scripts : List (ℕ × S)) where
  abbrev all : Asks
  all = asks_of asked scripts

  module _ (v : CoreState S) (of : IsOfGroup asked tells b scripts v) where
    group-asks : (c : ℕ) (rs : List Reply) → has_caller v.opening.scripts c ≡ true → all c rs ≡ asks_in_state asked v c rs
    group-asks c rs has = ap (λ (o : Option S). option_map_or (λ s. asked s rs) o None) (of.same c has)

    is-group : IsGroup b all (asks_in_state asked v) (has_root (roots_in v)) (has_caller v.opening.scripts)
    is-group =
        record {
          same = group-asks;
          rooted = λ c rs t asks bus. by c rs t bus (script_at v.opening.scripts c) refl asks;
          nobody = λ c rs isnt. ap (λ (o : Option S). option_map_or (λ s. asked s rs) o None) (none-there v.opening.scripts c isnt);
        }
      where
        by : (c : ℕ) (rs : List Reply) (t : TransferView) → t.bus < buses b → (o : Option S) → script_at v.opening.scripts c ≡ o
            → option_map_or (λ s. asked s rs) o None ≡ Some t
            → has_root (roots_in v) (root_of b t.bus) ≡ true
        by c rs t bus None at asks = absurd (let f : None ≡ Some t = asks in cc)
        by c rs t bus (Some s) at asks = (let x = script-found v.opening.scripts c s at in of.wired x.0 (x.1, s) rs t x.2 asks bus)

    is-part : IsTrue tells → IsPart b MOST_CALLERS all (part_of asked v)
    is-part tell =
        let told : IsTold asked v = of.told tell in
        record {
          group = is-group;
          stepwise = subst (λ (k : BoardView). IsStepwise k MOST_CALLERS (asks_in_state asked v)
              (reverse v.journal.entries)) of.board told.stepwise;
          rests = subst (λ (k : BoardView). (now k (asks_in_state asked v) (reverse v.journal.entries)).due ≡ None) of.board told.rests;
        }

  are-parts : IsTrue tells → (vs : List (CoreState S)) → AreOfGroups asked tells b scripts vs
      → AreParts b MOST_CALLERS all (map (part_of asked) vs)
  are-parts tell [] are = tt
  are-parts tell (v ∷ vs) are = (is-part v are.0 tell, are-parts tell vs are.1)

  group-at : (vs : List (CoreState S)) → AreOfGroups asked tells b scripts vs → (i : ℕ) (v : CoreState S) → slice_get vs i ≡ Some v
      → IsOfGroup asked tells b scripts v
  group-at [] are i v here = absurd (let f : None ≡ Some v = here in cc)
  group-at (x ∷ xs) are zero v here = subst (IsOfGroup asked tells b scripts) (let f : Some x ≡ Some v = here in cc) are.0
  group-at (x ∷ xs) are (suc i) v here = group-at xs are.1 i v here

  alike-at : (n : Now) (vs : List (CoreState S)) → AreAlikeIn b n (map (part_of asked) vs) → (i : ℕ) (v : CoreState S)
      → slice_get vs i ≡ Some v
      → IsAlike b (has_root (roots_in v)) (has_caller v.opening.scripts) n (now b (asks_in_state asked v) (reverse v.journal.entries))
  alike-at n [] are i v here = absurd (let f : None ≡ Some v = here in cc)
  alike-at n (x ∷ xs) are zero v here =
      let f : Some x ≡ Some v = here in
      let e : x ≡ v = cc in
      subst (λ (y : CoreState S). IsAlike b (has_root (roots_in y)) (has_caller y.opening.scripts) n
      (now b (asks_in_state asked y) (reverse y.journal.entries))) e are.0
  alike-at n (x ∷ xs) are (suc i) v here = alike-at n xs are.1 i v here

  module _ (tree : IsTree b) (vs : List (CoreState S)) (are : AreOfGroups asked tells b scripts vs)
      (apart : ArePartsApart (map (part_of asked) vs))
      (w : CoreState S)
      (whole : IsWhole b asked vs w) (same : w.opening.scripts ≡ scripts) where
    abbrev past : List Entry
    past = reverse (joined (map (part_of asked) vs))

    pub joins : IsTrue tells → AreJoined b MOST_CALLERS all (map (part_of asked) vs)
    joins tell = are-joined b tree MOST_CALLERS all (map (part_of asked) vs) (are-parts tell vs are) apart

    -- all as the whole has it
    as-whole : (P : BoardView → Asks → List Entry → Type 0) → P b all past → P w.opening.board (asks_in_state asked w)
        (reverse w.journal.entries)
    as-whole P h =
        subst (λ (k : BoardView). P k (asks_in_state asked w) (reverse w.journal.entries)) (sym whole.board)
        (subst (λ (ss : List (ℕ × S)). P b (asks_of asked ss) (reverse w.journal.entries)) (sym same)
        (subst (λ (es : List Entry). P b all (reverse es)) (sym whole.entries) h))

    -- THE WHOLE is told
    pub whole-told : IsTrue tells → IsTold asked w
    whole-told tell =
        let j : AreJoined b MOST_CALLERS all (map (part_of asked) vs) = joins tell in
        record {
          stepwise = as-whole (λ k asks es. IsStepwise k MOST_CALLERS asks es) j.stepwise;
          rests = as-whole (λ k asks es. (now k asks es).due ≡ None) j.rests;
          worlds = λ i r x at.
              let by = whole.worlds i r x at in
              let told : IsTold asked by.state = (group-at vs are by.place by.state by.here).told tell in
              as-whole (λ k asks es. x ≡ (now k asks es).worlds r)
              (told.worlds by.is_so.1 r x by.is_so.2
              ∙ ap (λ (k : BoardView). (now k (asks_in_state asked by.state) (reverse by.state.journal.entries)).worlds r)
              (group-at vs are by.place by.state by.here).board
              ∙ sym ((alike-at (now b all past) vs j.alike by.place by.state by.here).worlds r by.is_so.0));
          logs = λ i r x at.
              let by = whole.logs i r x at in
              let told : IsTold asked by.state = (group-at vs are by.place by.state by.here).told tell in
              as-whole (λ k asks es. x ≡ reverse ((now k asks es).calls r))
              (told.logs by.is_so.1 r x by.is_so.2
              ∙ ap (λ (k : BoardView). reverse ((now k (asks_in_state asked by.state) (reverse by.state.journal.entries)).calls r))
              (group-at vs are by.place by.state by.here).board
              ∙ ap reverse (sym ((alike-at (now b all past) vs j.alike by.place by.state by.here).calls r by.is_so.0)));
        }

    -- and all its callers are through
    pub whole-through : AllThrough asked tells w
    whole-through i n rs at =
        let by = whole.taken i n rs at in
        let of : IsOfGroup asked tells b scripts by.state = group-at vs are by.place by.state by.here in
        let his : IsThrough asked tells by.state n rs = of.through by.is_so.1 n rs by.is_so.2 in
        record {
          asks = ap (λ (ss : List (ℕ × S)). asks_of asked ss n rs) same ∙ group-asks by.state of n rs by.is_so.0 ∙ his.asks;
          walk = λ tell.
              as-whole (λ k asks es. (now k asks es).walk n ≡ Ends)
              ((alike-at (now b all past) vs (joins tell).alike by.place by.state by.here).walk n by.is_so.0
              ∙ ap (λ (k : BoardView). (now k (asks_in_state asked by.state) (reverse by.state.journal.entries)).walk n) (sym of.board)
              ∙ his.walk tell);
          settled = λ tell.
              as-whole (λ k asks es. (now k asks es).settled n ≡ rs)
              ((alike-at (now b all past) vs (joins tell).alike by.place by.state by.here).settled n by.is_so.0
              ∙ ap (λ (k : BoardView). (now k (asks_in_state asked by.state) (reverse by.state.journal.entries)).settled n) (sym of.board)
              ∙ his.settled tell);
        }
