-- The replies that are kept from a place on.
use Rattle.tools.proofs.Cited.{◌≡◌, ℕ, ◌+◌, ◌-◌, ◌<◌, ◌≤◌, List, drop, length, get_or, Some, None, sym, ap, ◌∙◌, length-drop, arith}
use Rattle.tools.proofs.Cited.{slice_get, length-map}
use Rattle.std.proofs.lemmas.List.{get_or-map, get_or-drop}
use Rattle.std.proofs.lemmas.Option.{slice_get-get_or, slice_get_past}
use Rattle.i2c_base.specs.declared.reply.ReplyHead.{ReplyHead}
use Rattle.tools.specs.Replies.{reply_of, replies_of}

module _ (items : List (ReplyHead × List ℕ)) (from place : ℕ) where
  pub many : length (drop from (replies_of items)) ≡ length items - from
  many = omega (arith, length-drop from (replies_of items), length-map items reply_of)

  pub none_kept : length items - from ≤ place → slice_get (drop from (replies_of items)) place ≡ None
  none_kept past = slice_get_past (drop from (replies_of items)) place (omega (arith, many, past))

  pub kept_at : (x : ReplyHead × List ℕ) → place < length items - from → x ≡ get_or items (from + place) x
      → slice_get (drop from (replies_of items)) place ≡ Some (reply_of x)
  kept_at x within is =
      slice_get-get_or (drop from (replies_of items)) place (reply_of x) (omega (arith, many, within))
      ∙ ap Some (get_or-drop from (replies_of items) place (reply_of x)
      ∙ get_or-map reply_of items (from + place) x (reply_of x) (omega (arith, within)) ∙ ap reply_of (sym is))
