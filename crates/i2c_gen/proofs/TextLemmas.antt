-- The text of a script grows by a line of five draws. The inductions go over the lines.
use Rattle.std.proofs.Common.{◌≡◌, ℕ, zero, suc, ◌+◌, ◌*◌, List, [], ◌∷◌, ◌++◌, sym, ap, ◌∙◌, append-nil, add-one, arith}
use Rattle.std.specs.List.{range_with_len, flat_map}
use Rattle.std.proofs.lemmas.List.Concat.{flat_map-append}
use Rattle.i2c_gen.specs.Boards.{bus_of}
use Rattle.i2c_gen.specs.Draws.{behind, drawn, number_behind, draw}
use Rattle.i2c_gen.specs.Scripts.{line_by, line_of}
use Rattle.i2c_gen.specs.declared.plan.Plan.{Plan}

-- a number behind so many draws, and after one more
next_behind : (seed k j x y : ℕ) → suc k ≡ j → x ≡ number_behind seed k → y ≡ behind x → y ≡ number_behind seed j
next_behind seed k j x y e h g = g ∙ ap behind h ∙ ap (number_behind seed) e

drawn_is : (seed k many x r : ℕ) → x ≡ number_behind seed k → r ≡ drawn (behind x) many → r ≡ draw seed k many
drawn_is seed k many x r h g = g ∙ ap (λ y. drawn (behind y) many) h

module _ (p : Plan) (n x0 x1 x2 x3 x4 x5 : ℕ) (h0 : x0 ≡ number_behind p.seed (5 * n)) (h1 : x1 ≡ behind x0) (h2 : x2 ≡ behind x1)
    (h3 : x3 ≡ behind x2) (h4 : x4 ≡ behind x3) (h5 : x5 ≡ behind x4) where
  behind_1 : x1 ≡ number_behind p.seed (5 * n + 1)
  behind_1 = next_behind p.seed (5 * n) (5 * n + 1) x0 x1 (omega arith) h0 h1

  behind_2 : x2 ≡ number_behind p.seed (5 * n + 2)
  behind_2 = next_behind p.seed (5 * n + 1) (5 * n + 2) x1 x2 (omega arith) behind_1 h2

  behind_3 : x3 ≡ number_behind p.seed (5 * n + 3)
  behind_3 = next_behind p.seed (5 * n + 2) (5 * n + 3) x2 x3 (omega arith) behind_2 h3

  behind_4 : x4 ≡ number_behind p.seed (5 * n + 4)
  behind_4 = next_behind p.seed (5 * n + 3) (5 * n + 4) x3 x4 (omega arith) behind_3 h4

  pub behind_line : x5 ≡ number_behind p.seed (5 * (n + 1))
  behind_line = next_behind p.seed (5 * n + 4) (5 * (n + 1)) x4 x5 (omega arith) behind_4 h5

  pub line_drawn : (roots root channel op reg val : ℕ) → roots ≡ p.roots → root ≡ drawn (behind x0) roots → channel ≡ drawn (behind x1) 8
      → op ≡ drawn (behind x2) 3 → reg ≡ drawn (behind x3) 256 → val ≡ drawn (behind x4) 256
      → line_by op (roots + 8 * root + channel) reg val ≡ line_of p n
  line_drawn roots root channel op reg val is r c o g v =
      let from_root : root ≡ draw p.seed (5 * n) p.roots = drawn_is p.seed (5 * n) p.roots x0 root h0 (r ∙ ap (drawn (behind x0)) is) in
      let from_channel : channel ≡ draw p.seed (5 * n + 1) 8 = drawn_is p.seed (5 * n + 1) 8 x1 channel behind_1 c in
      let from_op : op ≡ draw p.seed (5 * n + 2) 3 = drawn_is p.seed (5 * n + 2) 3 x2 op behind_2 o in
      let from_reg : reg ≡ draw p.seed (5 * n + 3) 256 = drawn_is p.seed (5 * n + 3) 256 x3 reg behind_3 g in
      let from_val : val ≡ draw p.seed (5 * n + 4) 256 = drawn_is p.seed (5 * n + 4) 256 x4 val behind_4 v in
      λ i. line_by (from_op i) (bus_of (is i) (from_root i) (from_channel i)) (from_reg i) (from_val i)

-- one number more
range_more : (a n : ℕ) → range_with_len a (n + 1) ≡ range_with_len a n ++ (a + n) ∷ []
range_more a zero = ap (λ k. k ∷ []) (omega arith)
range_more a (suc n) =
    let there : a + 1 + n ≡ a + suc n = omega arith in
    ap (range_with_len a) (add-one (suc n)) ∙ ap (λ ks. a ∷ ks) (ap (range_with_len (a + 1)) (sym (add-one n)) ∙ range_more (a + 1) n)
    ∙ ap (λ k. (a ∷ range_with_len (a + 1) n) ++ k ∷ []) there

pub flat_map-range_more : (f : ℕ → List ℕ) (a n : ℕ) → flat_map f (range_with_len a (n + 1)) ≡ flat_map f (range_with_len a n) ++ f (a + n)
flat_map-range_more f a n =
    ap (flat_map f) (range_more a n) ∙ flat_map-append f (range_with_len a n) ((a + n) ∷ [])
    ∙ ap (λ x. flat_map f (range_with_len a n) ++ x) (append-nil (f (a + n)))
