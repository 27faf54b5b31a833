use Rattle.i2c_top.proofs.Cited.{◌≡◌, ◌+◌, ◌≤◌, ◌<◌, length, map, string_bytes, AreScriptsIn, KeepsBut, shelf_view}
use Rattle.i2c_top.proofs.files.scripts_in.Given as goal

abbrev pub invariant-loop-caller : goal.invariant-loop-caller
invariant-loop-caller g l =
    record {
      count : length l.scripts.items ≡ l.caller;
      kept : KeepsBut (λ p. (l.first ≤ p) × (p < l.first + l.caller)) (shelf_view g.S.Shelf l.initial.shelf) (shelf_view g.S.Shelf l.shelf);
      scripts : AreScriptsIn g.S.Shelf.tells (g.S.Shelf.file l.initial.shelf) (map string_bytes l.names) l.board l.scripts.items;
    }
