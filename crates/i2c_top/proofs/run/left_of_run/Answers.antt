use Rattle.i2c_top.proofs.Cited.{IfOk, ◌≡◌, ℕ, List, All, Result, length, map, flat_map, refl, sym, ◌∙◌, ap, subst, length-map, PortCall}
use Rattle.i2c_top.proofs.Cited.{MOST_CALLERS, World, AreWorldsOf, devices_of, report_lines, IsEntry, JournalView, one_of, Ran, asks_in}
use Rattle.i2c_top.proofs.Cited.{callers_in, printed_in, HasRunBy, HaveJournal, IsLeftOf, AreCounted, map_map}
use Rattle.i2c_top.proofs.CoreLemmas.{if-ok, on-ok, ports-counted}
use Rattle.i2c_top.proofs.RunLemmas.{report-over, run-over, worlds-over}
use Rattle.i2c_top.proofs.run.left_of_run.Goals as goal

pub returns-clause-run : goal.returns-clause-run
returns-clause-run g c =
    λ tell b callers ports kept.
    let port = g.P.Port in
    let row = g.C.Caller in
    let printed = g.C.Printer.printed in
    let parts = one_of c.in-Ok.ran in
    let left : IsLeftOf port row b callers ports parts =
    subst (λ (r : Result (Ran _ _) _). IfOk r (λ x. IsLeftOf port row b callers ports (one_of x))) c.in-Ok.is kept in
    let journal = parts.journal.entries in
    let worlds : List World = map (λ p. port.world p.1) parts.ports.items in
    let logs : List (List PortCall) = map (λ p. port.log p.1) parts.ports.items in
    let back = c.alone-ports.result.items in
    let given : map port.world back ≡ worlds =
    ap (map port.world) c.alone-ports.ensures.ports ∙ map_map port.world (λ p. p.1) parts.ports.items in
    let logged : map port.log back ≡ logs =
    ap (map port.log) c.alone-ports.ensures.ports ∙ map_map port.log (λ p. p.1) parts.ports.items in
    let over = left.over tell in
    if-ok _ _ (λ bytes told. record {
      worlds = subst (λ (ws : List World). AreWorldsOf b ws) (sym given)
          (worlds-over row b (callers_in parts) MOST_CALLERS journal worlds logs c.requires.fair over);
      by = subst (λ ss. HasRunBy b (length ss) (asks_in row.asked ss) (printed_in printed ss) (HaveJournal c.args.ran) bytes
          (map port.log back) (devices_of b (map port.world back)) (map port.faults back)) left.scripts
          (record {
            journal = journal;
            is_told = report-over row b (callers_in parts) MOST_CALLERS journal worlds logs c.requires.fair over printed bytes
                (told ∙ ap (λ ss. report_lines (map (λ s. printed (row.script s.caller) (row.taken s.caller)) ss) journal)
                c.as_slice-2.ensures.value
                ∙ ap (λ (xs : List (List ℕ)). report_lines xs journal)
                (sym (map_map (λ s. printed (row.script s) (row.taken s)) (λ s. s.caller) parts.seats.items)));
            is_run = run-over row b (callers_in parts) MOST_CALLERS journal worlds logs c.requires.fair over
                (map port.log back) (devices_of b (map port.world back)) (map port.faults back)
                (subst (λ (js : List JournalView). All IsEntry (flat_map
                (λ (j : JournalView). j.entries) js)) c.as_slice.ensures.value c.are_in_range.ensures)
                (record {
                  devices = λ _. ap (devices_of b) given;
                  logged = λ _. logged;
                  counted = λ count. subst (λ (ls : List (List PortCall)). AreCounted b ls (map port.faults back)) logged
                      (ports-counted port b back tell (sym (length-map back port.log)
                      ∙ ap (λ (ls : List (List PortCall)). length ls) logged ∙ count) c.alone-ports.ensures.accounts);
                });
            ordered = record { left = c.in-Ok.ran; is = c.in-Ok.is; entries = refl };
          });
    }) c.report_of-report.result c.report_of-report.ensures.text

pub returns-clause-setups : goal.returns-clause-setups
returns-clause-setups g c =
    λ setups are.
    on-ok c.report_of-report.result (ap (map g.P.Port.setup) c.alone-ports.ensures.ports ∙ map_map g.P.Port.setup (λ p. p.1) c.in-Ok.ran.ports.items
    ∙ subst (λ (r : Result (Ran _ _) _). IfOk r (λ x. map (λ p. g.P.Port.setup p.1) x.ports.items ≡ setups)) c.in-Ok.is are)
