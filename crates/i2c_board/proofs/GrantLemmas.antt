-- A grant from two searches: one over the muxes, and one over the devices, to which each device adds what it says alone. The
-- inductions go over the devices.
use Rattle.i2c_board.proofs.Cited.{◌≡◌, ℕ, ◌+◌, ◌<◌, ◌≤◌, ◌==◌, Bool, true, false, not, cond, ◌&&◌, ◌||◌, List, [], ◌∷◌, ◌++◌, length, take}
use Rattle.i2c_board.proofs.Cited.{get_or, Option, Some, None, refl, sym, ap, ◌∙◌, arith, list_any, take_more, length-take-le, Busy}
use Rattle.i2c_board.proofs.Cited.{MuxSpec, BoardView, DeviceView, is_below, is_aside, grant_of, device_grant, grant_by, joined}
use Rattle.std.specs.List.{position_from}
use Rattle.std.proofs.lemmas.Bool.{eqb-true}
use Rattle.i2c_base.specs.declared.tree.Grant.{Grant}
use Rattle.i2c_base.specs.declared.tree.Grant.TheVariants.{Named, Nobody}
use Rattle.i2c_spec.specs.Tree.{is_on_path}
use Rattle.i2c_spec.specs.Grant.{has_address, some_chip, some_device, named_by}
use Rattle.i2c_board.specs.Passes.{is_beside}
use Rattle.i2c_board.proofs.AsideLemmas.{any_either}

any_push : {X : Type 0} (test : X → Bool) (xs : List X) (x : X) → list_any test (xs ++ x ∷ []) ≡ (list_any test xs || test x)
any_push test [] x = by (test x)
  where
    by : (t : Bool) → (t || false) ≡ t
    by true = refl
    by false = refl
any_push test (y ∷ xs) x = ap (λ (t : Bool). test y || t) (any_push test xs x) ∙ by (test y) (list_any test xs) (test x)
  where
    by : (p q r : Bool) → (p || (q || r)) ≡ (p || q) || r
    by true q r = refl
    by false q r = refl

-- the first of a list, or the one that comes after it
abbrev first_of : Option ℕ → Bool → ℕ → Option ℕ
first_of (Some k) t n = Some k
first_of None t n = cond t (Some n) None

position_push : {X : Type 0} (test : X → Bool) (k : ℕ) (xs : List X) (x : X)
    → position_from test k (xs ++ x ∷ []) ≡ first_of (position_from test k xs) (test x) (k + length xs)
position_push test k [] x = ap (λ n. cond (test x) (Some n) None) (let e : k ≡ k + 0 = omega arith in e)
position_push test k (y ∷ xs) x =
    elim (test y)
    as (λ t. cond t (Some k) (position_from test (k + 1) (xs ++ x ∷ []))
    ≡ first_of (cond t (Some k) (position_from test (k + 1) xs)) (test x) (k + length (y ∷ xs))) [
      | true ↦ refl
      | false ↦
          position_push test (k + 1) xs x
          ∙ ap (first_of (position_from test (k + 1) xs) (test x)) (let e : k + 1 + length xs ≡ k + length (y ∷ xs) = omega arith in e)
    ]

-- the grant by what the searches find, and by what one device adds
abbrev granted : (beside force bound : Bool) → Option ℕ → Grant
granted beside force bound found = cond beside Busy (cond (not force && bound) Busy (named_by found))

abbrev by_one : (same beside on bound force : Bool) → ℕ → Grant
by_one same beside on bound force n =
    cond (not same) Nobody (cond beside Busy (cond (not on) Nobody (cond (bound && not force) Busy (Named n))))

adds : (a f b : Bool) (p : Option ℕ) (n : ℕ) (same beside on bound : Bool)
    → granted (a || (same && beside)) f (b || (bound && (same && on))) (first_of p (same && on) n)
    ≡ joined (granted a f b p) (by_one same beside on bound f n)
adds true f b p n same beside on bound = refl
adds false f b p n true true on bound = beside_busy f b p
  where
    beside_busy : (f b : Bool) (p : Option ℕ) → Busy ≡ joined (granted false f b p) Busy
    beside_busy false true p = refl
    beside_busy false false None = refl
    beside_busy false false (Some k) = refl
    beside_busy true b None = refl
    beside_busy true b (Some k) = refl
adds false false true p n same beside on bound = refl
adds false false false None n false beside on true = refl
adds false false false None n false beside on false = refl
adds false false false (Some k) n false beside on true = refl
adds false false false (Some k) n false beside on false = refl
adds false false false None n true false false true = refl
adds false false false None n true false false false = refl
adds false false false (Some k) n true false false true = refl
adds false false false (Some k) n true false false false = refl
adds false false false None n true false true true = refl
adds false false false None n true false true false = refl
adds false false false (Some k) n true false true true = refl
adds false false false (Some k) n true false true false = refl
adds false true b None n false beside on bound = refl
adds false true b (Some k) n false beside on bound = refl
adds false true b None n true false false bound = refl
adds false true b (Some k) n true false false bound = refl
adds false true b None n true false true true = refl
adds false true b None n true false true false = refl
adds false true b (Some k) n true false true true = refl
adds false true b (Some k) n true false true false = refl

-- one device more
pub device_grant-push : (b : BoardView) (ds : List DeviceView) (d : DeviceView) (s a : ℕ) (force : Bool)
    → device_grant b (ds ++ d ∷ []) s a force ≡ joined (device_grant b ds s a force) (grant_by b (length ds) d s a force)
device_grant-push b ds d s a force =
    let heard = λ (x : DeviceView). (x.addr == a) && is_beside b s x.bus in
    let held = λ (x : DeviceView). x.bound && ((x.addr == a) && is_on_path b s x.bus) in
    let there = λ (x : DeviceView). (x.addr == a) && is_on_path b s x.bus in
    ap (λ t. granted t force (list_any held (ds ++ d ∷ [])) (position_from there 0 (ds ++ d ∷ []))) (any_push heard ds d)
    ∙ ap (λ t. granted (list_any heard ds || heard d) force t (position_from there 0 (ds ++ d ∷ []))) (any_push held ds d)
    ∙ ap (granted (list_any heard ds || heard d) force (list_any held ds || held d)) (position_push there 0 ds d)
    ∙ ap (λ n. granted (list_any heard ds || heard d) force (list_any held ds || held d) (first_of (position_from there 0 ds) (there d) n))
    (let e : 0 + length ds ≡ length ds = omega arith in e)
    ∙ adds (list_any heard ds) force (list_any held ds) (position_from there 0 ds) (length ds) (d.addr == a) (is_beside b s d.bus)
    (is_on_path b s d.bus) d.bound

-- both searches together
pub grant-parts : (b : BoardView) (s a : ℕ) (force : Bool)
    → grant_of b s a force
    ≡ cond (some_chip b a (λ u. is_on_path b s u || is_beside b s u)) Busy (device_grant b b.devices s a force)
grant-parts b s a force =
    let test = λ (m : MuxSpec). has_address a m.addr in
    let same = λ (d : DeviceView). d.addr == a in
    let chips = any_either test (λ m. is_on_path b s m.bus) (λ m. is_beside b s m.bus) b.muxes
    ∙ ap (λ t. some_chip b a (is_on_path b s) || t) (any_either test (λ m. is_below b m.bus s) (λ m. is_aside b s m.bus) b.muxes) in
    let devices = any_either same (λ d. is_below b d.bus s) (λ d. is_aside b s d.bus) b.devices in
    let rest = λ (_ : ℕ). cond (not force && list_any (λ d. d.bound && ((d.addr == a) && is_on_path b s d.bus)) b.devices) Busy
    (named_by (position_from (λ d. (d.addr == a) && is_on_path b s d.bus) 0 b.devices)) in
    by (some_chip b a (is_on_path b s)) (some_chip b a (λ u. is_below b u s)) (some_chip b a (is_aside b s))
    (some_device b a (λ u. is_below b u s)) (some_device b a (is_aside b s)) (rest 0)
    ∙ ap (λ t. cond t Busy (cond (some_device b a (λ u. is_below b u s) || some_device b a (is_aside b s)) Busy (rest 0))) (sym chips)
    ∙ ap (λ t. cond (some_chip b a (λ u. is_on_path b s u || is_beside b s u)) Busy (cond t Busy (rest 0))) (sym devices)
  where
    by : (p q r x y : Bool) (g : Grant)
        → cond p Busy (cond (q || x) Busy (cond (r || y) Busy g)) ≡ cond (p || (q || r)) Busy (cond (x || y) Busy g)
    by true q r x y g = refl
    by false true r x y g = refl
    by false false true true y g = refl
    by false false true false y g = refl
    by false false false true y g = refl
    by false false false false y g = refl

pub device_grant-more : (b : BoardView) (ds : List DeviceView) (i : ℕ) (d : DeviceView) (s a : ℕ) (force : Bool) → i < length ds
    → device_grant b (take (i + 1) ds) s a force ≡ joined (device_grant b (take i ds) s a force) (grant_by b i (get_or ds i d) s a force)
device_grant-more b ds i d s a force low =
    ap (λ xs. device_grant b xs s a force) (take_more ds i d low)
    ∙ device_grant-push b (take i ds) (get_or ds i d) s a force
    ∙ ap (λ n. joined (device_grant b (take i ds) s a force) (grant_by b n (get_or ds i d) s a force))
    (length-take-le i ds (let h : i ≤ length ds = omega (arith, low) in h))

-- a device adds what it says of its address, and nothing where the address is another
pub joined_same : (b : BoardView) (n : ℕ) (d : DeviceView) (s a : ℕ) (force : Bool) (g : Grant) → (d.addr == a) ≡ true
    → joined g (grant_by b n d s d.addr force) ≡ joined g (grant_by b n d s a force)
joined_same b n d s a force g e =
    ap (λ (x : ℕ). joined g (grant_by b n d s x force)) (eqb-true d.addr a e)

pub joined_other : (b : BoardView) (n : ℕ) (d : DeviceView) (s a : ℕ) (force : Bool) (g : Grant) → (d.addr == a) ≡ false
    → g ≡ joined g (grant_by b n d s a force)
joined_other b n d s a force g e = by g ∙ ap (λ (t : Bool). joined g (told t)) (sym e)
  where
    told : Bool → Grant
    told t =
        cond (not t) Nobody
        (cond (is_beside b s d.bus) Busy (cond (not (is_on_path b s d.bus)) Nobody (cond (d.bound && not force) Busy (Named n))))

    by : (h : Grant) → h ≡ joined h Nobody
    by Busy = refl
    by Nobody = refl
    by (Named k) = refl
