-- What the limits of a board say of the numbers of its buses. No induction of its own: the sum over the muxes is
-- bounded by the library.
use Rattle.std.proofs.Common.{zero, suc, [], ◌∷◌, option_map, slice_get, ℕ, ◌≡◌, ◌^◌, ◌≤◌, List, Option, Some, None, subst, arith}
use Rattle.std.specs.List.{All}
use Rattle.std.specs.Option.{unwrap_or}
use Rattle.std.proofs.lemmas.List.Sums.{sum_by-le}
use Rattle.std.proofs.lemmas.List.Elements.{All-weaker, All-head, All-tail}
use Rattle.i2c_base.specs.declared.board.MuxKind.{MuxKind}
use Rattle.i2c_base.specs.declared.board.MuxSpec.{MuxSpec}
use Rattle.i2c_base.specs.declared.mux_facts.ChannelCode.{ChannelCode}
use Rattle.i2c_base.specs.declared.mux_facts.ChannelCode.TheVariants.{Bits, Number, Alone, Level}
use Rattle.i2c_base.specs.Limits.{MOST_CHANNELS, MOST_BUSES}
use Rattle.i2c_base.specs.Muxes.{facts_of}
use Rattle.i2c_base.specs.Board.{BoardView}
use Rattle.i2c_base.proofs.MuxLemmas.{FitsCode, facts_fit}
use Rattle.i2c_spec.specs.Tree.{buses, of_mux}
use Rattle.i2c_spec.specs.Plain.{IsPlainBoard, IsPlainMux, IsCount, FitsChannels}

-- no mux has more channels than a mux may have
pub channels_le : (k : MuxKind) (n : ℕ) → FitsChannels k n → n ≤ MOST_CHANNELS
channels_le k n h = by_code (facts_of k).code (facts_fit k)
  where
    few : (bit : ℕ) → bit ≤ 3 → 2 ^ bit ≤ MOST_CHANNELS
    few zero p = omega arith
    few (suc zero) p = omega arith
    few (suc (suc zero)) p = omega arith
    few (suc (suc (suc zero))) p = omega arith
    few (suc (suc (suc (suc bit)))) p = absurd (omega arith)

    told : (o : Option ℕ) → (facts_of k).channels ≡ o → IsCount o n
    told o e = subst (λ (p : Option ℕ). IsCount p n) e h

    by_code : (c : ChannelCode) → FitsCode c (facts_of k) → n ≤ MOST_CHANNELS
    by_code Bits fits = (let f : n ≡ (facts_of k).bits = told (Some (facts_of k).bits) fits.0 in omega (arith, fits.1))
    by_code (Number bit) fits = (let f : n ≡ 2 ^ bit = told (Some (2 ^ bit)) fits.0 in rw f (few bit fits.4))
    by_code Alone fits = (let f : n ≡ 1 = told (Some 1) fits.0 in omega arith)
    by_code Level fits = (told None fits.0).1

All_channels_le : (ms : List MuxSpec) → All IsPlainMux ms → All (λ m. m.channels ≤ MOST_CHANNELS) ms
All_channels_le ms h =
    All-weaker IsPlainMux (λ m. m.channels ≤ MOST_CHANNELS) (λ m plain. channels_le m.kind m.channels plain.channels) ms h

-- the roots, and the muxes with their channels
pub buses_le : (b : BoardView) → IsPlainBoard b → buses b ≤ MOST_BUSES
buses_le b plain =
    omega (
      arith,
      plain.most_roots,
      plain.most_muxes,
      sum_by-le (λ (m : MuxSpec). m.channels) MOST_CHANNELS b.muxes
          (All_channels_le b.muxes plain.muxes),
    )

most_channels : (ms : List MuxSpec) (k : ℕ) → All (λ m. m.channels ≤ MOST_CHANNELS) ms
    → unwrap_or (option_map (λ (m : MuxSpec). m.channels) (slice_get ms k)) 0 ≤ MOST_CHANNELS
most_channels [] k all = omega arith
most_channels (m ∷ ms) zero all = All-head (λ (x : MuxSpec). x.channels ≤ MOST_CHANNELS) m ms all
most_channels (m ∷ ms) (suc k) all = most_channels ms k (All-tail (λ (x : MuxSpec). x.channels ≤ MOST_CHANNELS) m ms all)

-- so has each mux of a board
pub channels_of_mux_le : (b : BoardView) (m : ℕ) → IsPlainBoard b → of_mux (λ x. x.channels) 0 b m ≤ MOST_CHANNELS
channels_of_mux_le b m plain = most_channels b.muxes m (All_channels_le b.muxes plain.muxes)
