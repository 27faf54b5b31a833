-- A line step that comes next is of a gpio mux on that root, to a level that it has. No induction.
use Rattle.bus_laws.proofs.Cited.{◌≡◌, ℕ, ◌<◌, ◌≤◌, true, false, zero, Some, sym, ◌∙◌, ap, subst, arith, MuxKind, BoardView, root_of}
use Rattle.bus_laws.proofs.Cited.{of_mux, IsTree, IsHop, Asks, Job, Call, Select, SwitchOff, off_kind, Shift, WalkTree, Then, job_bus}
use Rattle.bus_laws.proofs.Cited.{is_line, line_mux, line_level, Slots, first_act, Now, current, LinesAreLocked, AsksForMessages, Runs}
use Rattle.bus_laws.proofs.Cited.{Finds, Stands}
use Rattle.i2c_base.specs.declared.board.MuxKind.TheVariants as mux_kind
use Rattle.i2c_base.proofs.MuxLemmas.{gpio_only}
use Rattle.bus_laws.proofs.past.StandsFacts.{current-stands}
use Rattle.bus_laws.proofs.past.StandsEntries.{first_is}
use Rattle.bus_laws.specs.Next.{HasLineIn}

module _ (b : BoardView) (tree : IsTree b) where
  line_fits : (job : Job) (v : Slots) → is_line job ≡ true → Finds b job zero v
      → HasLineIn b (root_of b (job_bus job)) (line_mux job) (line_level job)
  line_fits (Call bus messages) v is finds = absurd (let f : false ≡ true = is in cc)
  line_fits (SwitchOff off) v is finds =
      record {
        is_gpio = finds.2 ∙ ap (λ (k : MuxKind). Some k) (gpio_only (off_kind off) is);
        on_root = ap (root_of b) finds.1;
        within = omega arith;
      }
  line_fits (Select h) v is finds =
      let hop : IsHop b h = tree.hop h.bus h finds.1 in
      let gpio : h.kind ≡ mux_kind.Gpio = gpio_only h.kind is in
      let low : h.channel < of_mux (λ m. m.channels) 0 b h.mux = tree.within h.bus h finds.2 finds.1 in
      record {
        is_gpio = hop.kind ∙ ap (λ (k : MuxKind). Some k) gpio;
        on_root = ap (root_of b) hop.home;
        within = subst (λ (k : MuxKind). line_level (Select (record h { kind = k })) ≤ of_mux (λ m. m.channels) 0 b h.mux) (sym gpio)
            (omega (arith, low));
      }

  pub next-line : LinesAreLocked b → (asks : Asks) → AsksForMessages asks → (n : Now) → Stands b n → (c : ℕ) (job : Job)
      → first_act (current b asks n c) ≡ Some (Shift job)
      → HasLineIn b (root_of b (job_bus job)) (line_mux job) (line_level job)
  next-line lines asks some n stands c job first =
      let cur = current-stands b tree lines asks some n c stands in
      let at = first_is (current b asks n c) (Shift job) first in
      let runs : Runs b cur.whose (n.held c) cur.view (Then (Shift job) at.0 at.1) = subst
      (λ (w : WalkTree). Runs b cur.whose (n.held c) cur.view w) at.2 cur.runs in
      line_fits job cur.view runs.0.by_line runs.0.finds
