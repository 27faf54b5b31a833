use Rattle.i2c_boardtext.proofs.Cited.{table_view}
use Rattle.toml.specs.Errors.{IsMemory}
use Rattle.i2c_boardtext.proofs.TextLemmas.{read, refused}
use Rattle.i2c_boardtext.proofs.board_text.document_of.Goals as goal

pub returns-in-Ok : goal.returns-in-Ok
returns-in-Ok c = read c.args.text.now (table_view c.in-Ok.table) c.in-Ok.ensures.ok.0 c.in-Ok.ensures.ok.1

pub returns-else-is_memory : goal.returns-else-is_memory
returns-else-is_memory c =
    refused c.args.text.now c.is_memory.result (IsMemory c.in-Err.error) c.if-is_memory.false c.is_memory.ensures c.in-Err.ensures.refused
