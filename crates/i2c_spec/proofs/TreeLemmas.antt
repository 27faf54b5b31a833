-- The hops over a bus are a way up a tree. The inductions go over the muxes from the last one of the board back,
-- each in two cases: the mux is crossed, or passed.
use Rattle.std.proofs.Common.{◌≡◌, ◌==◌, ◌||◌, Bool, false, ℕ, zero, suc, ◌+◌, ◌<◌, ◌≤◌, ◌⊎◌, inl, inr, List, [], ◌∷◌, ◌++◌, length}
use Rattle.std.proofs.Common.{reverse, take, Some, slice_get, refl, sym, ap, ◌∙◌, subst, arith}
use Rattle.std.proofs.lemmas.List.{reverse-append, length-reverse, reverse-reverse, take-append-le, take_all}
use Rattle.std.specs.List.{list_any}
use Rattle.std.proofs.lemmas.Bool.{cases_lt}
use Rattle.std.proofs.lemmas.Bool.Decides.{eqb_tells}
use Rattle.std.proofs.lemmas.Option.{slice_get_within, same_Some}
use Rattle.i2c_base.specs.declared.board.MuxKind.{MuxKind}
use Rattle.i2c_base.specs.declared.board.MuxSpec.{MuxSpec}
use Rattle.i2c_base.specs.Board.{BoardView}
use Rattle.i2c_spec.specs.Tree.{of_mux, Hop, hops, buses, buses_of, hop_at, hops_of, end_of, root_of, is_parent, is_staying, Crosses}
use Rattle.i2c_spec.specs.Tree.{IsAmongHops, IsApart, IsOver, is_below}
use Rattle.i2c_spec.specs.Plain.{IsPlanted}
use Rattle.i2c_spec.specs.TreeFacts.{IsHop}
use Rattle.i2c_spec.proofs.HopLemmas.{buses_of-cons, buses_of-reverse, hops_of-cross, hops_of-pass}

-- the first hop leads to the bus, from a bus before it
leads_of : (roots : ℕ) (ms : List MuxSpec) (s : ℕ) (h : Hop) (hs : List Hop) → IsPlanted roots ms
    → hops_of roots ms s ≡ h ∷ hs → (h.bus ≡ s) × (h.on < s)
leads_of roots [] s h hs planted e = cc
leads_of roots (m ∷ before) s h hs planted e =
    elim (cases_lt s (buses_of roots before)) [
      | inl pass ↦ leads_of roots before s h hs planted.1 (sym (hops_of-pass roots m before s pass) ∙ e)
      | inr cross ↦
          let found : hop_at roots before m s ∷ hops_of roots before m.bus ≡ h ∷ hs = sym (hops_of-cross roots m before s cross) ∙ e in
          let same : hop_at roots before m s ≡ h = cc in
          let bus : s ≡ h.bus = ap (λ (g : Hop). g.bus) same in
          let on : m.bus ≡ h.on = ap (λ (g : Hop). g.on) same in
          (sym bus, omega (arith, planted.0))
    ]

-- the hops behind it are those over the bus that it stands on
tail_of : (roots : ℕ) (ms : List MuxSpec) (s : ℕ) (h : Hop) (hs : List Hop) → IsPlanted roots ms
    → hops_of roots ms s ≡ h ∷ hs → hops_of roots ms h.on ≡ hs
tail_of roots [] s h hs planted e = cc
tail_of roots (m ∷ before) s h hs planted e =
    elim (cases_lt s (buses_of roots before)) [
      | inl pass ↦
          let inner : hops_of roots before s ≡ h ∷ hs = sym (hops_of-pass roots m before s pass) ∙ e in
          let below = leads_of roots before s h hs planted.1 inner in
          hops_of-pass roots m before h.on (omega (arith, below.1)) ∙ tail_of roots before s h hs planted.1 inner
      | inr cross ↦
          let found : hop_at roots before m s ∷ hops_of roots before m.bus ≡ h ∷ hs = sym (hops_of-cross roots m before s cross) ∙ e in
          let same : hop_at roots before m s ≡ h = cc in
          let rest : hops_of roots before m.bus ≡ hs = cc in
          let on : m.bus ≡ h.on = ap (λ (g : Hop). g.on) same in
          ap (λ u. hops_of roots (m ∷ before) u) (sym on) ∙ hops_of-pass roots m before m.bus planted.0 ∙ rest
    ]

-- every bus that is crossed comes before the bus
crosses_before : (roots : ℕ) (ms : List MuxSpec) (s u : ℕ) → IsPlanted roots ms → Crosses u (hops_of roots ms s) → u < s
crosses_before roots [] s u planted c = absurd c
crosses_before roots (m ∷ before) s u planted c =
    elim (cases_lt s (buses_of roots before)) [
      | inl pass ↦ crosses_before roots before s u planted.1 (subst (Crosses u) (hops_of-pass roots m before s pass) c)
      | inr cross ↦
          let found : (m.bus ≡ u) ⊎ Crosses u (hops_of roots before m.bus) = subst (Crosses u) (hops_of-cross roots m before s cross) c in
          elim found [
            | inl here ↦ omega (arith, planted.0, here)
            | inr behind ↦ omega (arith, planted.0, crosses_before roots before m.bus u planted.1 behind)
          ]
    ]

apart_of : (roots : ℕ) (ms : List MuxSpec) (s : ℕ) → IsPlanted roots ms → IsApart (hops_of roots ms s)
apart_of roots [] s planted = tt
apart_of roots (m ∷ before) s planted =
    elim (cases_lt s (buses_of roots before)) [
      | inl pass ↦ subst IsApart (sym (hops_of-pass roots m before s pass)) (apart_of roots before s planted.1)
      | inr cross ↦
          subst IsApart (sym (hops_of-cross roots m before s cross))
          (λ c. absurd (omega (arith, crosses_before roots before m.bus m.bus planted.1 c)), apart_of roots before m.bus planted.1)
    ]

-- the bus at the end of the hops is a root
end_is : (roots : ℕ) (ms : List MuxSpec) (s : ℕ) → IsPlanted roots ms → s < buses_of roots ms → end_of s (hops_of roots ms s) < roots
end_is roots [] s planted there = omega arith
end_is roots (m ∷ before) s planted there =
    elim (cases_lt s (buses_of roots before)) [
      | inl pass ↦
          subst (λ hs. end_of s hs < roots) (sym (hops_of-pass roots m before s pass)) (end_is roots before s planted.1 pass)
      | inr cross ↦
          subst (λ hs. end_of s hs < roots) (sym (hops_of-cross roots m before s cross)) (end_is roots before m.bus planted.1 planted.0)
    ]

-- over a root is no hop
pub root_hops_of : (roots : ℕ) (ms : List MuxSpec) (s : ℕ) → s < roots → hops_of roots ms s ≡ []
root_hops_of roots [] s root = refl
root_hops_of roots (m ∷ before) s root =
    hops_of-pass roots m before s (omega arith) ∙ root_hops_of roots before s root

-- the end of hops is their start or a bus that they cross
end_over : (s : ℕ) (hs : List Hop) → (end_of s hs ≡ s) ⊎ Crosses (end_of s hs) hs
end_over s [] = inl refl
end_over s (h ∷ hs) = elim (end_over h.on hs) [ inl here ↦ inr (inl (sym here)) | inr behind ↦ inr (inr behind) ]

-- what a list of muxes in file order says of a hop; where the bus that it comes from is within, its channel is too
record IsHopIn (roots : ℕ) (inside : Type 0) (muxes : List MuxSpec) (h : Hop) : Type 0 where
  pub spec : MuxSpec
  pub at : slice_get muxes h.mux ≡ Some spec
  pub on : spec.bus ≡ h.on
  pub parent : is_parent spec.lock ≡ h.parent
  pub kind : spec.kind ≡ h.kind
  pub stays : is_staying spec.idle ≡ h.stays
  pub bus : h.bus ≡ buses_of roots (take h.mux muxes) + h.channel
  pub bound : inside → h.channel < spec.channels

slice_get_append : {X : Type 0} (xs ys : List X) (k : ℕ) (x : X) → slice_get xs k ≡ Some x → slice_get (xs ++ ys) k ≡ Some x
slice_get_append [] ys k x e = cc
slice_get_append (y ∷ xs) ys zero x e = e
slice_get_append (y ∷ xs) ys (suc k) x e = slice_get_append xs ys k x e

slice_get_end : {X : Type 0} (xs : List X) (x : X) → slice_get (xs ++ x ∷ []) (length xs) ≡ Some x
slice_get_end [] x = refl
slice_get_end (y ∷ xs) x = slice_get_end xs x

-- a mux more at the end changes nothing
IsHopIn_more : (roots : ℕ) (inner outer : Type 0) (muxes : List MuxSpec) (m : MuxSpec) (h : Hop) → (outer → inner)
    → IsHopIn roots inner muxes h → IsHopIn roots outer (muxes ++ m ∷ []) h
IsHopIn_more roots inner outer muxes m h into is =
    let within = slice_get_within muxes h.mux is.spec is.at in
    record {
      spec = is.spec;
      at = slice_get_append muxes (m ∷ []) h.mux is.spec is.at;
      on = is.on;
      parent = is.parent;
      kind = is.kind;
      stays = is.stays;
      bus = is.bus ∙ ap (λ ms. buses_of roots ms + h.channel) (sym (take-append-le h.mux muxes (m ∷ []) (omega arith)));
      bound = λ o. is.bound (into o);
    }

-- the hop over the mux that comes after these
IsHopIn_here : (roots : ℕ) (before : List MuxSpec) (m : MuxSpec) (s : ℕ) → buses_of roots before ≤ s
    → IsHopIn roots (s < buses_of roots (m ∷ before)) (reverse before ++ m ∷ []) (hop_at roots before m s)
IsHopIn_here roots before m s cross =
    let n = length-reverse before in
    let front : take (length before) (reverse before ++ m ∷ []) ≡ reverse before =
    take-append-le (length before) (reverse before) (m ∷ []) (omega arith) ∙ take_all (length before) (reverse before) (omega arith) in
    record {
      spec = m;
      at = ap (λ k. slice_get (reverse before ++ m ∷ []) k) (sym n) ∙ slice_get_end (reverse before) m;
      on = refl;
      parent = refl;
      kind = refl;
      stays = refl;
      bus =
          let first : buses_of roots (take (length before) (reverse before ++ m ∷ [])) ≡ buses_of roots before =
          ap (buses_of roots) front ∙ buses_of-reverse roots before in
          omega arith;
      bound = λ there. omega (arith, buses_of-cons roots m before);
    }

hop_is : (roots : ℕ) (ms : List MuxSpec) (s : ℕ) (h : Hop) → IsPlanted roots ms → IsAmongHops h (hops_of roots ms s)
    → IsHopIn roots (s < buses_of roots ms) (reverse ms) h
hop_is roots [] s h planted among = absurd among
hop_is roots (m ∷ before) s h planted among =
    subst (λ xs. IsHopIn roots (s < buses_of roots (m ∷ before)) xs h) (sym (reverse-append (m ∷ []) before))
    (elim (cases_lt s (buses_of roots before)) [
      | inl pass ↦
          IsHopIn_more roots (s < buses_of roots before) (s < buses_of roots (m ∷ before)) (reverse before) m h (λ _. pass)
          (hop_is roots before s h planted.1 (subst (IsAmongHops h) (hops_of-pass roots m before s pass) among))
      | inr cross ↦
          let found : (h ≡ hop_at roots before m s) ⊎ IsAmongHops h (hops_of roots before m.bus) =
          subst (IsAmongHops h) (hops_of-cross roots m before s cross) among in
          elim found [
            | inl here ↦
                subst (IsHopIn roots (s < buses_of roots (m ∷ before)) (reverse before ++ m ∷ [])) (sym here)
                (IsHopIn_here roots before m s cross)
            | inr behind ↦
                IsHopIn_more roots (m.bus < buses_of roots before) (s < buses_of roots (m ∷ before)) (reverse before) m h (λ _. planted.0)
                (hop_is roots before m.bus h planted.1 behind)
          ]
    ])

-- hops are the same where their parts are
hop_of_parts : ℕ → ℕ → ℕ → ℕ → Bool → MuxKind → Bool → Hop
hop_of_parts bus mux channel on parent kind stays = record {
  bus = bus;
  mux = mux;
  channel = channel;
  on = on;
  parent = parent;
  kind = kind;
  stays = stays;
}

same_parts : (g h : Hop) → g.mux ≡ h.mux → g.channel ≡ h.channel → g.bus ≡ h.bus → g.on ≡ h.on → g.parent ≡ h.parent
    → g.kind ≡ h.kind → g.stays ≡ h.stays
    → hop_of_parts g.bus g.mux g.channel g.on g.parent g.kind g.stays ≡ hop_of_parts h.bus h.mux h.channel h.on h.parent h.kind h.stays
same_parts g h mux channel bus on parent kind stays = cc

same_hop : (g h : Hop) → g.mux ≡ h.mux → g.channel ≡ h.channel → g.bus ≡ h.bus → g.on ≡ h.on → g.parent ≡ h.parent
    → g.kind ≡ h.kind → g.stays ≡ h.stays → g ≡ h
unfolding hop_of_parts
same_hop g h mux channel bus on parent kind stays = same_parts g h mux channel bus on parent kind stays

module _ (b : BoardView) (planted : IsPlanted (length b.roots) (reverse b.muxes)) where
  hop_in : (s : ℕ) (h : Hop) → IsAmongHops h (hops b s) → IsHopIn (length b.roots) (s < buses b) b.muxes h
  hop_in s h among =
      let is = hop_is (length b.roots) (reverse b.muxes) s h planted among in
      subst (λ xs. IsHopIn (length b.roots) (s < buses b) xs h) (reverse-reverse b.muxes)
      (subst (λ n. IsHopIn (length b.roots) (s < n) (reverse (reverse b.muxes)) h) (buses_of-reverse (length b.roots) b.muxes) is)

  pub tree_leads : (s : ℕ) (h : Hop) (hs : List Hop) → hops b s ≡ h ∷ hs → (h.bus ≡ s) × (h.on < s)
  tree_leads s h hs e = leads_of (length b.roots) (reverse b.muxes) s h hs planted e

  pub tree_tail : (s : ℕ) (h : Hop) (hs : List Hop) → hops b s ≡ h ∷ hs → hops b h.on ≡ hs
  tree_tail s h hs e = tail_of (length b.roots) (reverse b.muxes) s h hs planted e

  -- no bus over a bus has its number or a greater one
  above_none : (hs : List Hop) (s u : ℕ) → hops b s ≡ hs → s ≤ u → list_any (λ h. h.on == u) hs ≡ false
  above_none [] s u e low = refl
  above_none (h ∷ hs) s u e low =
      let leads = (tree_leads s h hs e).1 in
      elim (eqb_tells h.on u) [
        | inl same ↦ (let is = same.1 in absurd (omega (arith, is, leads, low)))
        | inr other ↦ ap (λ (t : Bool). t || list_any (λ g. g.on == u) hs) other.0
            ∙ above_none hs h.on u (tree_tail s h hs e) (omega (arith, leads, low))
      ]

  pub tree_above : (s u : ℕ) → s ≤ u → is_below b s u ≡ false
  tree_above s u low = above_none (hops b s) s u refl low

  pub tree_apart : (s : ℕ) → IsApart (hops b s)
  tree_apart s = apart_of (length b.roots) (reverse b.muxes) s planted

  pub tree_hop : (s : ℕ) (h : Hop) → IsAmongHops h (hops b s) → IsHop b h
  tree_hop s h among =
      let is = hop_in s h among in
      let found = is.at in
      record {
        mux = slice_get_within b.muxes h.mux is.spec is.at;
        home = rw found is.on;
        parent = rw found (ap Some is.parent);
        kind = rw found (ap Some is.kind);
        stays = rw found is.stays;
      }

  pub tree_within : (s : ℕ) (h : Hop) → s < buses b → IsAmongHops h (hops b s) → h.channel < of_mux (λ m. m.channels) 0 b h.mux
  tree_within s h there among =
      let is = hop_in s h among in
      let found = is.at in
      rw found (is.bound there)

  pub tree_channel : (s t : ℕ) (g h : Hop) → IsAmongHops g (hops b s) → IsAmongHops h (hops b t)
      → g.mux ≡ h.mux → g.channel ≡ h.channel → g ≡ h
  tree_channel s t g h in_s in_t mux channel =
      let one = hop_in s g in_s in
      let other = hop_in t h in_t in
      let spec : one.spec ≡ other.spec =
      same_Some one.spec other.spec (sym one.at ∙ ap (λ k. slice_get b.muxes k) mux ∙ other.at) in
      same_hop g h mux channel
      (one.bus ∙ ap (λ k. buses_of (length b.roots) (take k b.muxes) + g.channel) mux
      ∙ ap (λ c. buses_of (length b.roots) (take h.mux b.muxes) + c) channel ∙ sym other.bus)
      (sym one.on ∙ ap (λ (m : MuxSpec). m.bus) spec ∙ other.on)
      (sym one.parent ∙ ap (λ (m : MuxSpec). is_parent m.lock) spec ∙ other.parent)
      (sym one.kind ∙ ap (λ (m : MuxSpec). m.kind) spec ∙ other.kind)
      (sym one.stays ∙ ap (λ (m : MuxSpec). is_staying m.idle) spec ∙ other.stays)

  pub tree_root_over : (s : ℕ) → IsOver b (root_of b s) s
  tree_root_over s = end_over s (hops b s)

  pub tree_root_is : (s : ℕ) → s < buses b → root_of b s < length b.roots
  tree_root_is s there =
      end_is (length b.roots) (reverse b.muxes) s planted (omega (arith, buses_of-reverse (length b.roots) b.muxes))

  -- the induction goes over the hops of s
  root_along : (hs : List Hop) (s : ℕ) (g : Hop) → hops b s ≡ hs → IsAmongHops g hs → root_of b g.on ≡ root_of b s
  root_along [] s g e among = absurd among
  root_along (h ∷ hs) s g e among =
      let tail = tree_tail s h hs e in
      let up : root_of b h.on ≡ root_of b s = ap (end_of h.on) tail ∙ sym (ap (end_of s) e) in
      elim among [
        | inl here ↦ ap (λ (x : Hop). root_of b x.on) here ∙ up
        | inr behind ↦ root_along hs h.on g tail behind ∙ up
      ]

  pub tree_root_same : (s : ℕ) (h : Hop) → IsAmongHops h (hops b s) → root_of b h.on ≡ root_of b s
  tree_root_same s h among = root_along (hops b s) s h refl among

  pub tree_root_hops : (s : ℕ) → s < length b.roots → hops b s ≡ []
  tree_root_hops s root = root_hops_of (length b.roots) (reverse b.muxes) s root
