use Rattle.addr_atr.proofs.Cited.{◌≡◌, ℕ, Bool, false, List, Some, None, ◌∙◌, sym, inl, table_view}
use Rattle.std.proofs.Common.{IsTrue, ◌↔◌, inr}
use Rattle.std.proofs.lemmas.Bool.{cases_Bool, false≢true}
use Rattle.std.proofs.lemmas.Str.{is_utf8-from_IsUtf8, IsUtf8-from_is_utf8}
use Rattle.std.specs.Prelude.{Ok, Err, IsUtf8}
use Rattle.std.specs.Str.{is_utf8}
use Rattle.toml.specs.Data.{Members}
use Rattle.toml.specs.Errors.{IsMemory}
use Rattle.toml.specs.Parse.{parse_document}
use Rattle.addr_atr.specs.MapTexts.{document_of}
use Rattle.addr_atr.specs.declared.fault.MapFault.TheVariants.{NotToml}
use Rattle.addr_atr.proofs.text.document_of.Goals as goal

read : (text : List ℕ) (ms : Members) → IsUtf8 text → parse_document text ≡ Some ms → document_of text ≡ Ok ms
read text ms utf8 found = rw (is_utf8-from_IsUtf8 text utf8, found)

refused : (text : List ℕ) (memory : Bool) (P : Type 0) → memory ≡ false → (IsTrue memory ↔ P)
    → ((P → ⊥) → IsUtf8 text → parse_document text ≡ None) → document_of text ≡ Err NotToml
refused text memory P other told none =
    elim (cases_Bool (is_utf8 text)) [
      | inl is ↦ rw (is, none (λ p. false≢true (sym other ∙ told.1 p)) (IsUtf8-from_is_utf8 text is))
      | inr isnt ↦ rw isnt
    ]

pub returns-in-Ok-clause-ok : goal.returns-in-Ok-clause-ok
returns-in-Ok-clause-ok c = read c.args.text.now (table_view c.in-Ok.table) c.in-Ok.ensures.ok.0 c.in-Ok.ensures.ok.1

pub returns-else-is_memory-clause-fault : goal.returns-else-is_memory-clause-fault
returns-else-is_memory-clause-fault c =
    refused c.args.text.now c.is_memory.result (IsMemory c.in-Err.error) c.if-is_memory.false c.is_memory.ensures c.in-Err.ensures.refused
