-- A device behind a translator is opened as on the board as written: none of these keeps its own address.
use Rattle.addr_atr.proofs.Cited.{◌≡◌, ℕ, zero, suc, Bool, true, false, not, ◌&&◌, ◌||◌, List, [], ◌∷◌, Option, Some, None, refl, sym, ◌∙◌}
use Rattle.addr_atr.proofs.Cited.{ap, map, slice_get, list_all, eq-eqb, and_parts, BoardView, DeviceView, IsPlainBoard, TargetState, Hop}
use Rattle.addr_atr.proofs.Cited.{IsTree, AliasPair, alias_of, TranslatorView, Route, route_of, moved, lowered_device, lowered, is_over}
use Rattle.addr_atr.proofs.Cited.{is_child, is_paired, are_distinct, has_child, is_served, IsMap}
use Rattle.std.proofs.lemmas.Bool.{not-true}
use Rattle.i2c_base.specs.declared.board.DeviceKind.{DeviceKind}
use Rattle.i2c_base.specs.declared.board.DeviceKind.TheVariants as kind
use Rattle.i2c_base.specs.Board.{RunView}
use Rattle.i2c_spec.specs.Targets.{opening_state, row_of_kind}
use Rattle.addr_atr.specs.Lowering.{is_smbus}
use Rattle.addr_atr.proofs.RouteLemmas.{IsRoute, IsFound, route-is, found}

-- only an smbus device keeps its address
opens_same : (k : DeviceKind) (a c : ℕ) (set : List RunView) → is_smbus k ≡ false → (row_of_kind k).opens a set
    ≡ (row_of_kind k).opens c set
opens_same (kind.Smbus width flip) a c set e = absurd (let f : true ≡ false = e in cc)
opens_same _ a c set e = refl

-- each of a list passes the test that all pass
all_at : {X : Type 0} (test : X → Bool) (xs : List X) (i : ℕ) (x : X) → list_all test xs ≡ true → slice_get xs i ≡ Some x → test x ≡ true
all_at test [] i x all at = absurd (let f : None ≡ Some x = at in cc)
all_at test (y ∷ ys) zero x all at =
    let same : y ≡ x = (let f : Some y ≡ Some x = at in cc) in
    ap test (sym same) ∙ (and_parts (test y) (list_all test ys) all).0
all_at test (y ∷ ys) (suc i) x all at = all_at test ys i x (and_parts (test y) (list_all test ys) all).1 at

served : (child paired smbus : Bool) → child ≡ true → (not child || (paired && not smbus)) ≡ true → smbus ≡ false
served true paired smbus e f = not-true smbus (and_parts paired (not smbus) f).1
served false paired smbus e f = absurd (let g : false ≡ true = e in cc)

module _ (b : BoardView) (plain : IsPlainBoard b) (tree : IsTree b) (ts : List TranslatorView) (is_map : IsMap b ts) where
  not_smbus : (i : ℕ) (d : DeviceView) → slice_get b.devices i ≡ Some d → (r : Route) → route_of b ts d.bus ≡ Some r
      → is_smbus d.kind ≡ false
  not_smbus i d at r e =
      let is : IsRoute b ts d.bus r = route-is b ts d.bus r e in
      let f : IsFound b is.hop.mux r.pairs = found b plain tree ts is_map d.bus r is in
      let t : TranslatorView = record { mux = is.hop.mux; pairs = r.pairs } in
      let all = (and_parts (list_all (λ (p : AliasPair). has_child b is.hop.mux p.addr) r.pairs)
      (list_all (is_served b t) b.devices && are_distinct r.pairs) f.paired).1 in
      served (is_child b is.hop.mux d.bus) (is_paired r.pairs d.addr) (is_smbus d.kind)
      (ap (λ (hs : List Hop). is_over is.hop.mux (slice_get hs 0)) is.over ∙ eq-eqb is.hop.mux is.hop.mux refl)
      (all_at (is_served b t) b.devices i d (and_parts (list_all (is_served b t) b.devices) (are_distinct r.pairs) all).0 at)

  opened_by : (i : ℕ) (d : DeviceView) → slice_get b.devices i ≡ Some d → (o : Option Route) → route_of b ts d.bus ≡ o
      → opening_state (moved o d) ≡ opening_state d
  opened_by i d at None e = refl
  opened_by i d at (Some r) e = opens_same d.kind (alias_of r.pairs d.addr) d.addr d.set (not_smbus i d at r e)

  opened_from : (ds : List DeviceView) → ((i : ℕ) (d : DeviceView) → slice_get ds i ≡ Some d
      → opening_state (lowered_device b ts d) ≡ opening_state d)
      → map opening_state (map (lowered_device b ts) ds) ≡ map opening_state ds
  opened_from [] each = refl
  opened_from (d ∷ ds) each =
      ap (λ (x : TargetState). x ∷ map opening_state (map (lowered_device b ts) ds)) (each 0 d refl)
      ∙ ap (λ (xs : List TargetState). opening_state d ∷ xs) (opened_from ds (λ i x at. each (suc i) x at))

  pub lowered-opens : map opening_state (lowered b ts).devices ≡ map opening_state b.devices
  lowered-opens = opened_from b.devices (λ i d at. opened_by i d at (route_of b ts d.bus) refl)
