-- Who is joined at an address, as a list: it is asked and told in place of all that are at the address.
use Rattle.bus_lines.proofs.Cited.{◌≡◌, ℕ, ◌==◌, Bool, true, false, ◌&&◌, cond, List, [], ◌∷◌, Option, Some, None, refl, sym, ap, ◌∙◌}
use Rattle.bus_lines.proofs.Cited.{slice_get, list_any, option_map_or, is_too_long, Mode, Bit, site_of, stands, where_joined, NodeState}
use Rattle.bus_lines.proofs.Cited.{node_table, Edge, seen, joined_at, slow_at, is_among, by_number, to_those, or-true, eq_self}
use Rattle.bus_lines.specs.Known.{ListsJoined}
use Rattle.bus_lines.proofs.KindLemmas.{NoFinish, joined_kept}
use Rattle.bus_lines.proofs.NumberedLemmas.{at_number, numbered_same}
use Rattle.bus_lines.proofs.StopLemmas.{none_has}

pub and_again : (a b : Bool) → ((a && b) && b) ≡ (a && b)
and_again true true = refl
and_again true false = refl
and_again false b = refl

-- ---- what is so of none of all that are at the address
all_none : (p : ℕ → Bool) (ns : List ℕ) → ((k : ℕ) → is_among ns k ≡ true → p k ≡ false) → list_any p ns ≡ false
all_none p [] none = refl
all_none p (n ∷ ns) none =
    rw (none n (rw (eq_self n) refl), all_none p ns (λ k among. none k (rw among (or-true (k == n))))) refl

loose_is_quick : (o : Option (Bit NodeState)) → option_map_or (λ (b : Bit NodeState). b.site.joined) o false ≡ false
    → option_map_or (λ (b : Bit NodeState). b.site.joined && is_too_long (node_table.hold b.site.state)) o false ≡ false
loose_is_quick None is = refl
loose_is_quick (Some b) is = ap (λ j. j && is_too_long (node_table.hold b.site.state)) is

module _ (bs : List (Bit NodeState)) (ns list : List ℕ) (has : ListsJoined ns list bs) where
  quick_either : list_any (slow_at bs) list ≡ false → (k : ℕ) → is_among ns k ≡ true → (joined : Bool) → joined_at bs k ≡ joined
      → slow_at bs k ≡ false
  quick_either none k among true joined =
      none_has (slow_at bs) list none k (has k ∙ ap (λ t. t && joined_at bs k) among ∙ joined)
  quick_either none k among false joined = loose_is_quick (slice_get bs k) joined

  pub none_is_slow : list_any (slow_at bs) list ≡ false → list_any (slow_at bs) ns ≡ false
  none_is_slow none = all_none (slow_at bs) ns (λ k among. quick_either none k among (joined_at bs k) refl)

-- ---- what is told to all that are at the address
told_so : (f : Bit NodeState → Bit NodeState) (c n : Bool) (a : ℕ) (j h : Bool) (x : NodeState) (m : Mode) (k : ℕ) → c ≡ (n && j)
    → cond c (where_joined f (stands (site_of a j h x) m k)) (stands (site_of a j h x) m k)
    ≡ cond n (where_joined f (stands (site_of a j h x) m k)) (stands (site_of a j h x) m k)
told_so f c true a true h x m k is = ap (λ t. cond t (where_joined f (stands (site_of a true h x) m k))
    (stands (site_of a true h x) m k)) is
told_so f c true a false h x m k is = ap (λ t. cond t (where_joined f (stands (site_of a false h x) m k))
    (stands (site_of a false h x) m k)) is
told_so f c false a j h x m k is = ap (λ t. cond t (where_joined f (stands (site_of a j h x) m k)) (stands (site_of a j h x) m k)) is

stays_joined : (e : Edge) → NoFinish e → (t : Bool) (b : Bit NodeState) → (cond t (where_joined (seen e) b) b).site.joined ≡ b.site.joined
stays_joined e nostop true b = joined_kept e nostop b
stays_joined e nostop false b = refl

-- after an edge that was told to some of them
pub told_to_joined : (f : Bit NodeState → Bit NodeState) (bs : List (Bit NodeState)) (ns list : List ℕ) → ListsJoined ns list bs
    → (e : Edge) → NoFinish e → (ms : List ℕ)
    → by_number (to_those list (where_joined f)) 0 (by_number (to_those ms (where_joined (seen e))) 0 bs)
    ≡ by_number (to_those ns (where_joined f)) 0 (by_number (to_those ms (where_joined (seen e))) 0 bs)
told_to_joined f bs ns list has e nostop ms =
    numbered_same (to_those list (where_joined f)) (to_those ns (where_joined f)) (by_number (to_those ms (where_joined (seen e))) 0 bs)
    (λ i x here.
    let r = at_number (to_those ms (where_joined (seen e))) i bs x here in
    let same : x.site.joined ≡ r.0.site.joined = ap (λ (b : Bit NodeState). b.site.joined) (sym r.2)
    ∙ stays_joined e nostop (is_among ms i) r.0 in
    let joined : joined_at bs i ≡ x.site.joined =
    ap (λ o. option_map_or (λ (b : Bit NodeState). b.site.joined) o false) r.1 ∙ sym same in
    told_so f (is_among list i) (is_among ns i) x.site.addr x.site.joined x.site.heard x.site.state x.mode x.hold
    (has i ∙ ap (λ t. is_among ns i && t) joined))
