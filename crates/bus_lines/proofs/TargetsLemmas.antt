-- All targets: each stays as the lists of numbers say, and as it is seen, whatever is told to those that the lists name.
use Rattle.bus_lines.proofs.Cited.{◌≡◌, ℕ, zero, suc, ◌==◌, Bool, true, false, cond, List, map, Some, refl, sym, ap, ◌∙◌, subst, arith}
use Rattle.bus_lines.proofs.Cited.{slice_get, Bit, where_joined, some_one, holds_line, released, NodeState, Edge, Rise, Fall, Tick, Finish}
use Rattle.bus_lines.proofs.Cited.{Leave, Other, Address, Put, Get, Enter, seen, PlaceView, states_on, joins_by, is_among, by_number}
use Rattle.bus_lines.proofs.Cited.{some_by, to_those, of_those, shared, IsCalm, IsUnit, AreUnits}
use Rattle.bus_lines.proofs.KindLemmas.{NoFinish, addr_kept, joined_kept, doors, doors_kept, states_numbered, joins_kept}
use Rattle.bus_lines.proofs.NumberedLemmas.{map_numbered, map_itself, at_number, some_of_those, some_kept}
use Rattle.bus_lines.proofs.UnitLemmas.{done_all, done_none, IsWithin, out_sees, holds_none}

-- ---- where no address comes in, each is seen as it is
pub seen_alone : (left v : ℕ) (bs : List (Bit NodeState)) → left ≡ 0 → map (shared left v) bs ≡ bs
seen_alone zero v bs none = map_itself (shared 0 v) bs (λ i b is. refl)
seen_alone (suc n) v bs none = absurd (omega (arith, none))

pub within_goes : (e : Edge) → IsWithin e → NoFinish e
within_goes (Rise level) within = tt
within_goes Fall within = tt
within_goes Tick within = tt
within_goes Finish within = absurd within
within_goes Leave within = absurd within
within_goes (Other byte) within = absurd within
within_goes (Address byte) within = absurd within
within_goes (Put byte) within = tt
within_goes (Get ack) within = tt
within_goes Enter within = tt

-- what a target is once it is touched
pub record IsTouched (left : ℕ) (live started : List ℕ) (k : ℕ) (b c : Bit NodeState) : Type 0 where
  pub out : is_among live k ≡ false → c ≡ released c.site
  pub calm : is_among started k ≡ false → IsCalm c
  pub waits : (n : ℕ) → left ≡ suc n → c.site.joined ≡ true → c ≡ released c.site
  pub addr : c.site.addr ≡ b.site.addr
  pub joined : c.site.joined ≡ b.site.joined

-- all are touched, and no channel opens or closes
pub touched_all : (left next : ℕ) (live started live_new started_new : List ℕ) (at : List (List ℕ)) (joins joins_new : ℕ → Bool)
    (f : ℕ → Bit NodeState → Bit NodeState) (bs : List (Bit NodeState)) → ((k : ℕ) → joins_new k ≡ joins k)
    → AreUnits left live started at joins bs
    → ((k : ℕ) (b : Bit NodeState) → slice_get bs k ≡ Some b → IsUnit left live started at joins k b
    → IsTouched next live_new started_new k b (f k b))
    → AreUnits next live_new started_new at joins_new (by_number f 0 bs)
touched_all left next live started live_new started_new at joins joins_new f bs same units touch k c is =
    let r = at_number f k bs c is in
    let u = units k r.0 r.1 in
    let t = touch k r.0 r.1 u in
    subst (IsUnit next live_new started_new at joins_new k) r.2
    (record {
      out = t.out;
      calm = t.calm;
      waits = t.waits;
      joined = t.joined ∙ u.joined ∙ sym (same k);
      listed = λ a low. u.listed a low ∙ ap (λ x. a == x) (sym t.addr);
    })

pub stays_out : (b c : Bit NodeState) → c ≡ b → b ≡ released b.site → c ≡ released c.site
stays_out b c same out = subst (λ (d : Bit NodeState). d ≡ released d.site) (sym same) out

pub stays_calm : (b c : Bit NodeState) → c ≡ b → IsCalm b → IsCalm c
stays_calm b c same calm = subst IsCalm (sym same) calm

-- ---- an edge within a message, where no address comes in
module _ (e : Edge) (within : IsWithin e) (left : ℕ) (live started : List ℕ) (at : List (List ℕ)) (ps : List PlaceView)
    (bs : List (Bit NodeState))
    (none : left ≡ 0) (units : AreUnits left live started at (joins_by ps (states_on bs)) bs) where
  abbrev told_to : ℕ → Bit NodeState → Bit NodeState
  told_to = to_those live (where_joined (seen e))

  doors_told : (t : Bool) (b : Bit NodeState) → doors (cond t (where_joined (seen e) b) b).site.state ≡ doors b.site.state
  doors_told true b = doors_kept e (within_goes e within) b
  doors_told false b = refl

  told_addr : (t : Bool) (b : Bit NodeState) → (cond t (where_joined (seen e) b) b).site.addr ≡ b.site.addr
  told_addr true b = addr_kept e (within_goes e within) b
  told_addr false b = refl

  told_joined : (t : Bool) (b : Bit NodeState) → (cond t (where_joined (seen e) b) b).site.joined ≡ b.site.joined
  told_joined true b = joined_kept e (within_goes e within) b
  told_joined false b = refl

  told_touched : (k : ℕ) (b : Bit NodeState) → IsUnit left live started at (joins_by ps (states_on bs)) k b
      → IsTouched left live started k b (told_to k b)
  told_touched k b u =
      record {
        out = λ out. stays_out b (told_to k b) (ap (λ t. cond t (where_joined (seen e) b) b) out) (u.out out);
        calm = λ out. let calm = u.calm out in
            stays_calm b (told_to k b) (done_none (is_among live k) b (where_joined (seen e) b) (out_sees e within b calm.out)) calm;
        waits = λ n is joined. absurd (omega (arith, none, is));
        addr = told_addr (is_among live k) b;
        joined = told_joined (is_among live k) b;
      }

  pub all_told : by_number told_to 0 bs ≡ map (where_joined (seen e)) bs
  all_told =
      sym (map_itself (λ (b : Bit NodeState). b) (by_number told_to 0 bs) (λ i b is. refl))
      ∙ map_numbered told_to (λ (b : Bit NodeState). b) (where_joined (seen e)) bs
      (λ k b is. done_all (is_among live k) (where_joined (seen e)) b (λ out. out_sees e within b ((units k b is).out out)))

  pub told_seen : (v : ℕ) → map (shared left v) (by_number told_to 0 bs) ≡ map (where_joined (seen e)) (map (shared left v) bs)
  told_seen v =
      seen_alone left v (by_number told_to 0 bs) none ∙ all_told ∙ ap (map (where_joined (seen e))) (sym (seen_alone left v bs none))

  pub told_doors : map doors (states_on (by_number told_to 0 bs)) ≡ map doors (states_on bs)
  told_doors =
      states_numbered doors told_to bs
      (λ k b is. doors_told (is_among live k) b)

  pub told_units : AreUnits left live started at (joins_by ps (states_on (by_number told_to 0 bs))) (by_number told_to 0 bs)
  told_units =
      touched_all left left live started live started at (joins_by ps (states_on bs)) (joins_by ps
      (states_on (by_number told_to 0 bs))) told_to bs
      (joins_kept ps (states_on (by_number told_to 0 bs)) (states_on bs) told_doors) units
      (λ k b is u. told_touched k b u)

  pub told_holds : some_by (of_those live holds_line) 0 (by_number told_to 0 bs) ≡ some_one holds_line (by_number told_to 0 bs)
  told_holds = some_of_those live holds_line (by_number told_to 0 bs) (λ k b is out. holds_none b ((told_units k b is).out out))

  -- who held SCL before does so still, where the edge is nothing to that
  pub edge_holds : ((b : Bit NodeState) → holds_line (where_joined (seen e) b) ≡ holds_line b) → (v : ℕ) (new : List (Bit NodeState))
      → new ≡ by_number told_to 0 bs → (held : Bool) → held ≡ some_one holds_line (map (shared left v) bs)
      → held ≡ some_by (of_those live holds_line) 0 new
  edge_holds same v new is held was =
      was ∙ ap (some_one holds_line) (seen_alone left v bs none)
      ∙ sym (ap (some_by (of_those live holds_line) 0) is ∙ told_holds ∙ ap (some_one holds_line) all_told
      ∙ some_kept holds_line (where_joined (seen e)) bs same)

  -- .. and where nobody held it, nobody does, if the edge makes nobody hold it
  pub edge_frees : (some_one holds_line bs ≡ false → some_one holds_line (map (where_joined (seen e)) bs) ≡ false) → (v : ℕ)
      (new : List (Bit NodeState)) → new ≡ by_number told_to 0 bs → (held : Bool) → held ≡ some_one holds_line (map (shared left v) bs)
      → held ≡ false → held ≡ some_by (of_those live holds_line) 0 new
  edge_frees stays v new is held was free =
      free
      ∙ sym (ap (some_by (of_those live holds_line) 0) is ∙ told_holds ∙ ap (some_one holds_line) all_told
      ∙ stays (ap (some_one holds_line) (sym (seen_alone left v bs none)) ∙ sym was ∙ free))
