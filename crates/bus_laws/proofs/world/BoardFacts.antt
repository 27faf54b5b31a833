-- What the type of a board keeps of one mux.
use Rattle.bus_laws.proofs.Cited.{◌≡◌, ℕ, zero, suc, ◌<◌, ◌≤◌, Bool, true, false, not, ◌&&◌, List, [], ◌∷◌, length, Option, Some, None, eqb}
use Rattle.bus_laws.proofs.Cited.{refl, sym, ◌∙◌, ap, subst, arith, slice_get, is_some, unwrap_or, option_map, MuxKind, MuxSpec, facts_of}
use Rattle.bus_laws.proofs.Cited.{BoardView, Hop, of_mux, addr_of_mux, is_absent, is_held, IsHop, IsPlainBoard, IsPlainMux, IsChip}
use Rattle.bus_laws.proofs.Cited.{has_chip, is_gpio, is_arbitrator, chip_address, IsMuxOf}
use Rattle.std.specs.Prelude.{slice_index_or}
use Rattle.i2c_spec.specs.Plain.{IsCount, IsForeign}
use Rattle.bus_laws.specs.Runs.{answers}
use Rattle.bus_laws.proofs.world.ChipLaws.{IsBelow, HasChannel}
use Rattle.std.proofs.Math.Bool.{and-false}

-- the mux of a number, with its kind
told_mux : (o : Option MuxSpec) (k : MuxKind) → unwrap_or (option_map (λ (m : MuxSpec). Some m.kind) o) None ≡ Some k
    → (m : MuxSpec) × (o ≡ Some m) × (m.kind ≡ k)
told_mux None k e = absurd (let f : None ≡ Some k = e in cc)
told_mux (Some m) k e = (m, refl, (let f : Some m.kind ≡ Some k = e in cc))

pub mux_at : (b : BoardView) (m : ℕ) (k : MuxKind) → IsMuxOf b m k → (s : MuxSpec) × (slice_get b.muxes m ≡ Some s) × (s.kind ≡ k)
mux_at b m k e = told_mux (slice_get b.muxes m) k e

pub get_within : {X : Type 0} (xs : List X) (i : ℕ) (x d : X) → slice_get xs i ≡ Some x → (i < length xs) × (slice_index_or xs i d ≡ x)
get_within [] i x d e = absurd (let f : None ≡ Some x = e in cc)
get_within (y ∷ ys) zero x d e = (omega arith, (let f : Some y ≡ Some x = e in cc))
get_within (y ∷ ys) (suc i) x d e = (let r = get_within ys i x d e in (omega (arith, r.0), r.1))

pub plain_mux : (b : BoardView) → IsPlainBoard b → (m : ℕ) (s : MuxSpec) → slice_get b.muxes m ≡ Some s → IsPlainMux s
plain_mux b plain m s e =
    let r = get_within b.muxes m s s e in
    subst (λ (x : MuxSpec). IsPlainMux x) r.1 (plain.muxes m s r.0)

-- the same place in a list of the same length
pub get_same_length : {X Y : Type 0} (xs : List X) (ys : List Y) (i : ℕ) (y : Y) → length xs ≡ length ys → slice_get ys i ≡ Some y
    → (x : X) × (slice_get xs i ≡ Some x)
get_same_length xs [] i y e at = absurd (let f : None ≡ Some y = at in cc)
get_same_length [] (z ∷ zs) i y e at = absurd (omega arith)
get_same_length (x ∷ xs) (z ∷ zs) zero y e at = (x, refl)
get_same_length (x ∷ xs) (z ∷ zs) (suc i) y e at = get_same_length xs zs i y (omega arith) at

some_addr : (o : Option ℕ) (absent : Bool) → IsChip false o absent → o ≡ Some (unwrap_or o 0)
some_addr (Some a) absent fits = refl
some_addr None absent fits = absurd (let f : false ≡ true = fits in cc)

-- a mux that isn't switched by a line has a chip with an address
pub has_address_of : (b : BoardView) → IsPlainBoard b → (m : ℕ) (k : MuxKind) → IsMuxOf b m k → is_gpio k ≡ false
    → addr_of_mux b m ≡ Some (chip_address b m)
has_address_of b plain m k known line =
    let s = mux_at b m k known in
    let p : IsPlainMux s.0 = plain_mux b plain m s.0 s.1 in
    let at : addr_of_mux b m ≡ s.0.addr = ap (λ (o : Option MuxSpec). unwrap_or (option_map (λ (x : MuxSpec). x.addr) o) None) s.1 in
    at
    ∙ some_addr s.0.addr s.0.absent (subst (λ (t : Bool). IsChip t s.0.addr s.0.absent) (ap is_gpio s.2 ∙ line) p.chip)
    ∙ ap (λ (o : Option ℕ). Some (unwrap_or o 0)) (sym at)

pub has_chip-is : (b : BoardView) (m a : ℕ) → addr_of_mux b m ≡ Some a → has_chip b m ≡ not (is_absent b m)
has_chip-is b m a e = ap (λ (o : Option ℕ). not (is_absent b m) && is_some o) e ∙ and_true (not (is_absent b m))
  where
    and_true : (t : Bool) → (t && true) ≡ t
    and_true true = refl
    and_true false = refl

-- only an arbitrator can be held
few_foreign : (asks : Bool) (n : ℕ) → IsForeign asks n → n ≤ 8
few_foreign true n f = f.1
few_foreign false n f = omega arith

pub held-is : (b : BoardView) (m : ℕ) (s : MuxSpec) → slice_get b.muxes m ≡ Some s → is_held b m ≡ eqb s.foreign 8
held-is b m s e = ap (λ (o : Option MuxSpec). unwrap_or (option_map (λ (x : MuxSpec). eqb x.foreign 8) o) false) e

pub foreign-is : (b : BoardView) (m : ℕ) (s : MuxSpec) → slice_get b.muxes m ≡ Some s → of_mux (λ x. x.foreign) 0 b m ≡ s.foreign
foreign-is b m s e = ap (λ (o : Option MuxSpec). unwrap_or (option_map (λ (x : MuxSpec). x.foreign) o) 0) e

pub not_held : (b : BoardView) → IsPlainBoard b → (m : ℕ) (k : MuxKind) → IsMuxOf b m k → is_arbitrator k ≡ false → is_held b m ≡ false
not_held b plain m k known no_arb =
    let s = mux_at b m k known in
    let p : IsPlainMux s.0 = plain_mux b plain m s.0 s.1 in
    held-is b m s.0 s.1 ∙ ap (λ (n : ℕ). eqb n 8) (subst (λ (t : Bool). IsForeign t s.0.foreign) (ap is_arbitrator s.2 ∙ no_arb) p.foreign)

pub foreign_few : (b : BoardView) → IsPlainBoard b → (m : ℕ) (k : MuxKind) → IsMuxOf b m k → of_mux (λ x. x.foreign) 0 b m ≤ 8
foreign_few b plain m k known =
    let s = mux_at b m k known in
    let p : IsPlainMux s.0 = plain_mux b plain m s.0 s.1 in
    subst (λ (n : ℕ). n ≤ 8) (sym (foreign-is b m s.0 s.1)) (few_foreign (is_arbitrator s.0.kind) s.0.foreign p.foreign)

-- a hop's channel is one of its kind
channel_of : (o : Option ℕ) (n c : ℕ) → IsCount o n → c < n → IsBelow o c
channel_of (Some m) n c f below = omega arith
channel_of None n c f below = tt

pub has_channel : (b : BoardView) → IsPlainBoard b → (h : Hop) → IsHop b h → h.channel < of_mux (λ m. m.channels) 0 b h.mux
    → HasChannel h.kind h.channel
has_channel b plain h hop below =
    let s = mux_at b h.mux h.kind hop.kind in
    let p : IsPlainMux s.0 = plain_mux b plain h.mux s.0 s.1 in
    let n : of_mux (λ x. x.channels) 0 b h.mux ≡ s.0.channels = ap
    (λ (o : Option MuxSpec). unwrap_or (option_map (λ (x : MuxSpec). x.channels) o) 0) s.1 in
    subst (λ (k : MuxKind). HasChannel k h.channel) s.2
    (channel_of (facts_of s.0.kind).channels s.0.channels h.channel p.channels (subst (λ (i : ℕ). h.channel < i) n below))

pub answers-is : (b : BoardView) (m : ℕ) → is_absent b m ≡ false → is_held b m ≡ false → answers b m ≡ true
answers-is b m here free = ap (λ (t : Bool). not t && not (is_held b m)) here ∙ ap not free

pub absent_silent : (b : BoardView) (m : ℕ) → is_absent b m ≡ true → answers b m ≡ false
absent_silent b m gone = ap (λ (t : Bool). not t && not (is_held b m)) gone

pub held_silent : (b : BoardView) (m : ℕ) → is_held b m ≡ true → answers b m ≡ false
held_silent b m held = ap (λ (t : Bool). not (is_absent b m) && not t) held ∙ and-false (not (is_absent b m))
