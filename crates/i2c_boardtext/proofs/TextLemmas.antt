-- A text and the document that it spells.
use Rattle.i2c_boardtext.proofs.Cited.{◌≡◌, ℕ, Bool, false, List, Some, None, ◌∙◌, sym, false≢true, Ok, Err, Members}
use Rattle.std.proofs.Common.{IsTrue, ◌↔◌, inl, inr}
use Rattle.std.proofs.lemmas.Bool.{cases_Bool}
use Rattle.std.proofs.lemmas.Str.{is_utf8-from_IsUtf8, IsUtf8-from_is_utf8}
use Rattle.std.specs.Prelude.{IsUtf8}
use Rattle.std.specs.Str.{is_utf8}
use Rattle.toml.specs.Parse.{parse_document}
use Rattle.i2c_boardtext.specs.BoardText.{document_of}
use Rattle.i2c_boardtext.specs.declared.fault.BoardFault.TheVariants.{NotToml}

pub read : (text : List ℕ) (ms : Members) → IsUtf8 text → parse_document text ≡ Some ms → document_of text ≡ Ok ms
read text ms utf8 found = rw (is_utf8-from_IsUtf8 text utf8, found)

-- a refusal that isn't for memory
pub refused : (text : List ℕ) (memory : Bool) (P : Type 0) → memory ≡ false → (IsTrue memory ↔ P)
    → ((P → ⊥) → IsUtf8 text → parse_document text ≡ None)
    → document_of text ≡ Err NotToml
refused text memory P other told none =
    elim (cases_Bool (is_utf8 text)) [
      | inl is ↦ rw (is, none (λ p. false≢true (sym other ∙ told.1 p)) (IsUtf8-from_is_utf8 text is))
      | inr isnt ↦ rw isnt
    ]
