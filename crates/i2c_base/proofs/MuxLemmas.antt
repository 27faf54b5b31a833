-- How the facts of a kind of mux go together, by the code that tells its open channel. Every row keeps it, and the
-- proofs above ask for nothing else of a kind. No induction.
use Rattle.std.proofs.Common.{◌≡◌, suc, ◌^◌, ◌≤◌, true, false, Some, None, refl, sym, ◌∙◌, subst, arith}
use Rattle.i2c_base.specs.declared.board.MuxKind.{MuxKind}
use Rattle.i2c_base.specs.declared.board.MuxKind.TheVariants.{Pca9548, Pca9546, Pca9544, Pca9541, Gpio}
use Rattle.i2c_base.specs.declared.mux_facts.MuxFacts.{MuxFacts}
use Rattle.i2c_base.specs.declared.mux_facts.ChannelCode.{ChannelCode}
use Rattle.i2c_base.specs.declared.mux_facts.ChannelCode.TheVariants.{Bits, Number, Alone, Level}
use Rattle.i2c_base.specs.Muxes.{facts_of}

-- a switch, a mux with a number, an arbitrator, a mux that is switched by a line
abbrev pub FitsCode : ChannelCode → MuxFacts → Type 0
FitsCode Bits f = (f.channels ≡ Some f.bits) × (f.bits ≤ 8) × (f.by_line ≡ false) × (f.asks ≡ false)
FitsCode (Number n) f = (f.channels ≡ Some (2 ^ n)) × (f.bits ≡ suc n) × (f.by_line ≡ false) × (f.asks ≡ false) × (n ≤ 3)
FitsCode Alone f = (f.channels ≡ Some 1) × (f.wants_parent ≡ true) × (f.by_line ≡ false) × (f.asks ≡ true)
FitsCode Level f = (f.channels ≡ None) × (f.wants_parent ≡ true) × (f.by_line ≡ true) × (f.asks ≡ false)

pub facts_fit : (k : MuxKind) → FitsCode (facts_of k).code (facts_of k)
facts_fit Pca9548 = (refl, omega arith, refl, refl)
facts_fit Pca9546 = (refl, omega arith, refl, refl)
facts_fit Pca9544 = (refl, refl, refl, refl, omega arith)
facts_fit Pca9541 = (refl, refl, refl, refl)
facts_fit Gpio = (refl, refl, refl, refl)

-- only a gpio mux is switched by a line
pub gpio_only : (k : MuxKind) → (facts_of k).by_line ≡ true → k ≡ Gpio
gpio_only Gpio e = refl
gpio_only Pca9548 e = absurd (let f : false ≡ true = e in cc)
gpio_only Pca9546 e = absurd (let f : false ≡ true = e in cc)
gpio_only Pca9544 e = absurd (let f : false ≡ true = e in cc)
gpio_only Pca9541 e = absurd (let f : false ≡ true = e in cc)

-- a mux that is switched by a line
pub record IsLineRow (f : MuxFacts) : Type 0 where
  pub code : f.code ≡ Level
  pub wants_parent : f.wants_parent ≡ true
  pub asks : f.asks ≡ false

pub line_row : (k : MuxKind) → (facts_of k).by_line ≡ true → IsLineRow (facts_of k)
line_row k e =
    subst (λ j. IsLineRow (facts_of j)) (sym (gpio_only k e)) (record { code = refl; wants_parent = refl; asks = refl })

-- an arbitrator
pub record IsArbitratorRow (f : MuxFacts) : Type 0 where
  pub code : f.code ≡ Alone
  pub wants_parent : f.wants_parent ≡ true
  pub by_line : f.by_line ≡ false

pub arbitrator_row : (k : MuxKind) → (facts_of k).asks ≡ true → IsArbitratorRow (facts_of k)
arbitrator_row k e = by_code (facts_of k).code refl (facts_fit k)
  where
    by_code : (c : ChannelCode) → (facts_of k).code ≡ c → FitsCode c (facts_of k) → IsArbitratorRow (facts_of k)
    by_code Bits at fits = absurd (let g : false ≡ true = sym fits.3 ∙ e in cc)
    by_code (Number n) at fits = absurd (let g : false ≡ true = sym fits.3 ∙ e in cc)
    by_code Alone at fits = record { code = at; wants_parent = fits.1; by_line = fits.2 }
    by_code Level at fits = absurd (let g : false ≡ true = sym fits.3 ∙ e in cc)
