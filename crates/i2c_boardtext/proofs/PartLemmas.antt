-- The parts of a board, one after the other: each is read beside those before it, and the first fault is that of the whole.
use Rattle.i2c_boardtext.proofs.Cited.{◌≡◌, ℕ, List, length, ap, ◌∙◌, sym, subst, Result, Ok, MuxSpec, RootSpec, buses_of, ◌>>=◌, Fails}
use Rattle.i2c_boardtext.proofs.Cited.{roots_of, muxes_of, devices_of, board_by_parts, BoardFault}
use Rattle.i2c_base.specs.Board.{BoardView, DeviceView}
use Rattle.i2c_boardtext.proofs.RowLemmas.{fails_on}
use Rattle.i2c_boardtext.specs.Values.{TopView}

module _ (t : TopView) where
  abbrev whole : List RootSpec → List MuxSpec → List DeviceView → Result BoardView BoardFault
  whole roots muxes devices = Ok (record { version = t.version; roots = roots; muxes = muxes; devices = devices })

  abbrev behind_muxes : List RootSpec → List MuxSpec → Result BoardView BoardFault
  behind_muxes roots muxes = devices_of (buses_of (length roots) muxes) t.devices >>= whole roots muxes

  abbrev behind_roots : List RootSpec → Result BoardView BoardFault
  behind_roots roots = muxes_of (length roots) t.muxes >>= behind_muxes roots

  at_muxes : (roots : List RootSpec) → roots_of t.roots ≡ Ok roots → board_by_parts t ≡ behind_roots roots
  at_muxes roots is = ap (λ r. r >>= behind_roots) is

  at_devices : (roots : List RootSpec) (muxes : List MuxSpec) (n : ℕ) → roots_of t.roots ≡ Ok roots → n ≡ length roots
      → muxes_of n t.muxes ≡ Ok muxes
      → board_by_parts t ≡ behind_muxes roots muxes
  at_devices roots muxes n is count are =
      at_muxes roots is ∙ ap (λ k. muxes_of k t.muxes >>= behind_muxes roots) (sym count) ∙ ap (λ r. r >>= behind_muxes roots) are

  pub are_parts : (roots : List RootSpec) (muxes : List MuxSpec) (devices : List DeviceView) (n buses : ℕ) → roots_of t.roots ≡ Ok roots
      → n ≡ length roots → muxes_of n t.muxes ≡ Ok muxes
      → buses ≡ buses_of n muxes → devices_of buses t.devices ≡ Ok devices → board_by_parts t ≡ whole roots muxes devices
  are_parts roots muxes devices n buses is count are there last =
      at_devices roots muxes n is count are
      ∙ ap (λ k. devices_of k t.devices >>= whole roots muxes) (ap (λ k. buses_of k muxes) (sym count) ∙ sym there)
      ∙ ap (λ r. r >>= whole roots muxes) last

  pub root_fault : (e : BoardFault) → Fails e (roots_of t.roots) → Fails e (board_by_parts t)
  root_fault e fails = fails_on e (roots_of t.roots) behind_roots fails

  pub mux_fault : (e : BoardFault) (roots : List RootSpec) (n : ℕ) → roots_of t.roots ≡ Ok roots → n ≡ length roots
      → Fails e (muxes_of n t.muxes) → Fails e (board_by_parts t)
  mux_fault e roots n is count fails =
      subst (λ r. Fails e r) (sym (at_muxes roots is ∙ ap (λ k. muxes_of k t.muxes >>= behind_muxes roots) (sym count)))
      (fails_on e (muxes_of n t.muxes) (behind_muxes roots) fails)

  pub device_fault : (e : BoardFault) (roots : List RootSpec) (muxes : List MuxSpec) (n buses : ℕ) → roots_of t.roots ≡ Ok roots
      → n ≡ length roots → muxes_of n t.muxes ≡ Ok muxes
      → buses ≡ buses_of n muxes → Fails e (devices_of buses t.devices) → Fails e (board_by_parts t)
  device_fault e roots muxes n buses is count are there fails =
      subst (λ r. Fails e r)
      (sym (at_devices roots muxes n is count are
      ∙ ap (λ k. devices_of k t.devices >>= whole roots muxes) (ap (λ k. buses_of k muxes) (sym count) ∙ sym there)))
      (fails_on e (devices_of buses t.devices) (whole roots muxes) fails)
