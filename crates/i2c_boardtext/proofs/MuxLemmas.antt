-- One mux more at the end of a board's muxes.
use Rattle.i2c_boardtext.proofs.Cited.{ℕ, ◌<◌, ◌≤◌, List, [], ◌∷◌, ◌++◌, reverse, MuxSpec, IsPlainMux, IsPlanted, buses_of}
use Rattle.std.proofs.lemmas.List.{reverse-append}
use Rattle.i2c_spec.proofs.HopLemmas.{buses_of-reverse}
use Rattle.i2c_spec.proofs.PlainLemmas.{channels_le}

pub planted-push : (roots : ℕ) (ms : List MuxSpec) (m : MuxSpec) → IsPlanted roots (reverse ms) → m.bus < buses_of roots ms
    → IsPlanted roots (reverse (ms ++ m ∷ []))
planted-push roots ms m before here =
    rw (reverse-append ms (m ∷ [])) (rw (buses_of-reverse roots ms) here, before)

pub few_channels : (m : MuxSpec) → IsPlainMux m → m.channels ≤ 8
few_channels m plain = channels_le m.kind m.channels plain.channels
