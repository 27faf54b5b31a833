-- The messages of a transfer, one after the other. The inductions go over the messages.
use Rattle.flat_laws.proofs.Cited.{◌≡◌, ℕ, suc, ◌+◌, ◌<◌, Bool, true, false, cond, ◌&&◌, List, [], ◌∷◌, ◌++◌, length, Option, refl, sym}
use Rattle.flat_laws.proofs.Cited.{◌∙◌, ap, subst, arith, add-zero, zero-add, append-nil, inl, inr, End, BoardView, AreBytes, Cut}
use Rattle.flat_laws.proofs.Cited.{TransferView, TargetState, MessageView, messages_of, World, FlatListener, idle, flat_listener}
use Rattle.flat_laws.proofs.Cited.{granted_on, block_limit, cut_in, flat_messages, Listener, world_listener, TalkTold, AllTold, talk}
use Rattle.flat_laws.proofs.Cited.{talk_all, is_empty, is_good, with_read, Same, LeadsTo, ToldAlike, EndsTransfer, talk_part, GrowsAlike}
use Rattle.i2c_base.specs.declared.entry.End.TheVariants as end
use Rattle.flat_laws.specs.Parts.{talk_more}
use Rattle.bus_laws.proofs.device.Same.{message-alike}
use Rattle.bus_laws.proofs.device.Stops.{flat-settled}
use Rattle.std.proofs.Math.Bool.{and-true, and-false}

not_empty : (ms : List MessageView) (m : MessageView) → is_empty (ms ++ m ∷ []) ≡ false
not_empty [] m = refl
not_empty (x ∷ xs) m = refl

module _ {W : Type 0} (l : Listener W) (limit : ℕ) (cuts : ℕ → Option ℕ) where
  abbrev all_told : List ℕ → MessageView → TalkTold W → End → AllTold W
  all_told got m t e = record { bytes = with_read got m t; now = t.now; end = e }

  -- a message and what follows it
  abbrev told_then : List ℕ → MessageView → TalkTold W → (TalkTold W → AllTold W) → AllTold W
  told_then got m t next = cond (is_good t.end) (next t) (all_told got m t t.end)

  -- all messages of a transfer are those with which it ends
  pub part-all : (w : W) (ms : List MessageView) (i : ℕ) (got : List ℕ)
      → talk_part l limit w ms true i cuts got ≡ talk_all l limit w ms i cuts got
  part-all w [] i got = refl
  part-all w (m ∷ ms) i got =
      ap (λ (last : Bool). told_then got m (talk l limit w m last (cuts i))
      (λ t. talk_part l limit t.now ms true (i + 1) cuts (with_read got m t))) (and-true (is_empty ms))
      ∙ ap (λ (all : AllTold W). cond (is_good (talk l limit w m (is_empty ms) (cuts i)).end) all
      (all_told got m (talk l limit w m (is_empty ms) (cuts i)) (talk l limit w m (is_empty ms) (cuts i)).end))
      (part-all (talk l limit w m (is_empty ms) (cuts i)).now ms (i + 1) (with_read got m (talk l limit w m (is_empty ms) (cuts i))))

  -- the last one ends as it ends
  one_told : (got : List ℕ) (m : MessageView) (t : TalkTold W) (e : End)
      → cond (is_good e) (all_told got m t end.Ok) (all_told got m t e) ≡ all_told got m t e
  one_told got m t end.Ok = refl
  one_told got m t end.Nack = refl
  one_told got m t end.Slow = refl
  one_told got m t end.Refused = refl
  one_told got m t end.Proto = refl
  one_told got m t (end.Cut q) = refl

  -- one message more after some that weren't the last
  pub part-more : (w : W) (ms : List MessageView) (m : MessageView) (ends : Bool) (i : ℕ) (got : List ℕ)
      → talk_part l limit w (ms ++ m ∷ []) ends i cuts got ≡ talk_more l limit m ends (cuts (i + length ms))
      (talk_part l limit w ms false i cuts got)
  part-more w [] m ends i got =
      one_told got m (talk l limit w m ends (cuts i)) (talk l limit w m ends (cuts i)).end
      ∙ ap (λ (n : ℕ). all_told got m (talk l limit w m ends (cuts n)) (talk l limit w m ends (cuts n)).end) (sym (add-zero i))
  part-more w (x ∷ xs) m ends i got =
      ap (λ (last : Bool). told_then got x (talk l limit w x last (cuts i))
      (λ t. talk_part l limit t.now (xs ++ m ∷ []) ends (i + 1) cuts (with_read got x t)))
      (ap (λ (t : Bool). t && ends) (not_empty xs m))
      ∙ by (is_good (talk l limit w x false (cuts i)).end) refl
      (part-more (talk l limit w x false (cuts i)).now xs m ends (i + 1) (with_read got x (talk l limit w x false (cuts i))))
      ∙ ap (λ (n : ℕ). talk_more l limit m ends (cuts n)
      (told_then got x (talk l limit w x false (cuts i)) (λ t. talk_part l limit t.now xs false (i + 1) cuts (with_read got x t))))
      (let e : i + 1 + length xs ≡ i + suc (length xs) = omega arith in e)
      ∙ ap (λ (last : Bool). talk_more l limit m ends (cuts (i + suc (length xs)))
      (told_then got x (talk l limit w x last (cuts i)) (λ t. talk_part l limit t.now xs false (i + 1) cuts (with_read got x t))))
      (sym (and-false (is_empty xs)))
    where
      by : (good : Bool) → is_good (talk l limit w x false (cuts i)).end ≡ good
          → talk_part l limit (talk l limit w x false (cuts i)).now (xs ++ m ∷ []) ends (i + 1) cuts
          (with_read got x (talk l limit w x false (cuts i)))
          ≡ talk_more l limit m ends (cuts (i + 1 + length xs))
          (talk_part l limit (talk l limit w x false (cuts i)).now xs false (i + 1) cuts
          (with_read got x (talk l limit w x false (cuts i))))
          → told_then got x (talk l limit w x false (cuts i))
          (λ t. talk_part l limit t.now (xs ++ m ∷ []) ends (i + 1) cuts (with_read got x t))
          ≡ talk_more l limit m ends (cuts (i + 1 + length xs))
          (told_then got x (talk l limit w x false (cuts i)) (λ t. talk_part l limit t.now xs false (i + 1) cuts (with_read got x t)))
      by true good rest =
          let t : TalkTold W = talk l limit w x false (cuts i) in
          ap (λ (g : Bool). cond g (talk_part l limit t.now (xs ++ m ∷ []) ends (i + 1) cuts (with_read got x t)) (all_told got x t t.end))
          good ∙ rest
          ∙ ap (λ (g : Bool). talk_more l limit m ends (cuts (i + 1 + length xs))
          (cond g (talk_part l limit t.now xs false (i + 1) cuts (with_read got x t)) (all_told got x t t.end))) (sym good)
      by false bad rest =
          let t : TalkTold W = talk l limit w x false (cuts i) in
          ap (λ (g : Bool). cond g (talk_part l limit t.now (xs ++ m ∷ []) ends (i + 1) cuts (with_read got x t)) (all_told got x t t.end))
          bad
          ∙ sym (ap (λ (g : Bool). cond g
          (all_told (with_read got x t) m (talk l limit t.now m ends (cuts (i + 1 + length xs)))
          (talk l limit t.now m ends (cuts (i + 1 + length xs))).end)
          (all_told got x t t.end)) bad)
          ∙ ap (λ (g : Bool). talk_more l limit m ends (cuts (i + 1 + length xs))
          (cond g (talk_part l limit t.now xs false (i + 1) cuts (with_read got x t)) (all_told got x t t.end))) (sym bad)

  -- which cuts are told of other messages doesn't matter
  pub part-cuts : (other : ℕ → Option ℕ) (w : W) (ms : List MessageView) (ends : Bool) (i : ℕ) (got : List ℕ)
      → ((j : ℕ) → j < length ms → cuts (i + j) ≡ other (i + j))
      → talk_part l limit w ms ends i cuts got ≡ talk_part l limit w ms ends i other got
  part-cuts other w [] ends i got same = refl
  part-cuts other w (m ∷ ms) ends i got same =
      ap (λ (c : Option ℕ). told_then got m (talk l limit w m (is_empty ms && ends) c)
      (λ t. talk_part l limit t.now ms ends (i + 1) cuts (with_read got m t)))
      (ap cuts (sym (add-zero i)) ∙ same 0 (omega arith) ∙ ap other (add-zero i))
      ∙ ap (λ (all : AllTold W). cond (is_good (talk l limit w m (is_empty ms && ends) (other i)).end) all
      (all_told got m (talk l limit w m (is_empty ms && ends) (other i)) (talk l limit w m (is_empty ms && ends) (other i)).end))
      (part-cuts other (talk l limit w m (is_empty ms && ends) (other i)).now ms ends (i + 1)
      (with_read got m (talk l limit w m (is_empty ms && ends) (other i)))
      (λ j below. (let e : i + 1 + j ≡ i + suc j = omega arith in ap cuts e ∙ same (suc j) (omega arith) ∙ ap other (sym e))))

  -- a message that doesn't go through is the last of its transfer, whatever would follow
  pub part-stops : (w : W) (ms : List MessageView) (y : MessageView) (rest : List MessageView) (i : ℕ) (got : List ℕ)
      → is_good (talk_part l limit w ms false i cuts got).end ≡ false
      → talk_all l limit w (ms ++ y ∷ rest) i cuts got ≡ talk_part l limit w ms false i cuts got
  part-stops w [] y rest i got bad = absurd (let f : true ≡ false = bad in cc)
  part-stops w (m ∷ ms) y rest i got bad =
      ap (λ (last : Bool). told_then got m (talk l limit w m last (cuts i))
      (λ t. talk_all l limit t.now (ms ++ y ∷ rest) (i + 1) cuts (with_read got m t))) (more_empty ms)
      ∙ by (is_good (talk l limit w m false (cuts i)).end) refl
      (part-stops (talk l limit w m false (cuts i)).now ms y rest (i + 1) (with_read got m (talk l limit w m false (cuts i))))
      (sym (ap (λ (last : Bool). is_good
      (told_then got m (talk l limit w m last (cuts i)) (λ t. talk_part l limit t.now ms false (i + 1) cuts (with_read got m t))).end)
      (and-false (is_empty ms))) ∙ bad)
      ∙ ap (λ (last : Bool). told_then got m (talk l limit w m last (cuts i))
      (λ t. talk_part l limit t.now ms false (i + 1) cuts (with_read got m t))) (sym (and-false (is_empty ms)))
    where
      more_empty : (xs : List MessageView) → is_empty (xs ++ y ∷ rest) ≡ false
      more_empty [] = refl
      more_empty (x ∷ xs) = refl

      by : (good : Bool) → is_good (talk l limit w m false (cuts i)).end ≡ good
          → (is_good (talk_part l limit (talk l limit w m false (cuts i)).now ms false (i + 1) cuts
          (with_read got m (talk l limit w m false (cuts i)))).end ≡ false
          → talk_all l limit (talk l limit w m false (cuts i)).now (ms ++ y ∷ rest) (i + 1) cuts
          (with_read got m (talk l limit w m false (cuts i)))
          ≡ talk_part l limit (talk l limit w m false (cuts i)).now ms false (i + 1) cuts
          (with_read got m (talk l limit w m false (cuts i))))
          → is_good (told_then got m (talk l limit w m false (cuts i))
          (λ t. talk_part l limit t.now ms false (i + 1) cuts (with_read got m t))).end ≡ false
          → told_then got m (talk l limit w m false (cuts i))
          (λ t. talk_all l limit t.now (ms ++ y ∷ rest) (i + 1) cuts (with_read got m t))
          ≡ told_then got m (talk l limit w m false (cuts i)) (λ t. talk_part l limit t.now ms false (i + 1) cuts (with_read got m t))
      by true good same ill =
          let t : TalkTold W = talk l limit w m false (cuts i) in
          ap (λ (all : AllTold W). cond (is_good t.end) all (all_told got m t t.end))
          (same (sym (ap (λ (g : Bool). is_good
          (cond g (talk_part l limit t.now ms false (i + 1) cuts (with_read got m t)) (all_told got m t t.end)).end) good) ∙ ill))
      by false ended same ill =
          let t : TalkTold W = talk l limit w m false (cuts i) in
          ap (λ (g : Bool). cond g (talk_all l limit t.now (ms ++ y ∷ rest) (i + 1) cuts (with_read got m t)) (all_told got m t t.end))
          ended
          ∙ ap (λ (g : Bool). cond g (talk_part l limit t.now ms false (i + 1) cuts (with_read got m t)) (all_told got m t t.end))
          (sym ended)

grown : (b : BoardView) (r : ℕ) (m : MessageView) (granted : ℕ → Option ℕ) (limit : ℕ) (w : World) (ends : Bool) (cut : Option ℕ)
    (a : AllTold FlatListener) → is_good a.end ≡ true
    → Same b r w a.now → LeadsTo w m.addr (granted m.addr) → AreBytes m.bytes
    → GrowsAlike b r m a (talk world_listener limit w m ends cut) (talk_more (flat_listener granted) limit m ends cut a)
grown b r m granted limit w ends cut a good same leads bytes =
    let t : TalkTold World = talk world_listener limit w m ends cut in
    let u : TalkTold FlatListener = talk (flat_listener granted) limit a.now m ends cut in
    let alike : ToldAlike (Same b r) t u = message-alike b r granted limit w a.now m ends cut same leads bytes in
    subst (λ (g : Bool). GrowsAlike b r m a t (cond g (record { bytes = with_read a.bytes m u; now = u.now; end = u.end }) a)) (sym good)
    (record {
      bytes = ap (λ (xs : List ℕ). cond m.reading (a.bytes ++ xs) a.bytes) (sym alike.bytes);
      end = sym alike.end;
      now = alike.now;
    })

pub part-grows : (b : BoardView) (r : ℕ) (granted : ℕ → Option ℕ) (limit : ℕ) (f : FlatListener) (ms : List MessageView) (cuts : ℕ
    → Option ℕ) (w : World) (m : MessageView) (ends : Bool)
    → is_good (talk_part (flat_listener granted) limit f ms false 0 cuts []).end ≡ true
    → Same b r w (talk_part (flat_listener granted) limit f ms false 0 cuts []).now
    → LeadsTo w m.addr (granted m.addr) → AreBytes m.bytes
    → GrowsAlike b r m (talk_part (flat_listener granted) limit f ms false 0 cuts [])
    (talk world_listener limit w m ends (cuts (length ms)))
    (talk_part (flat_listener granted) limit f (ms ++ m ∷ []) ends 0 cuts [])
part-grows b r granted limit f ms cuts w m ends good same leads bytes =
    subst (λ (a : AllTold FlatListener). GrowsAlike b r m (talk_part (flat_listener granted) limit f ms false 0 cuts [])
    (talk world_listener limit w m ends (cuts (length ms))) a)
    (sym (part-more (flat_listener granted) limit cuts f ms m ends 0 []
    ∙ ap (λ (n : ℕ). talk_more (flat_listener granted) limit m ends (cuts n)
    (talk_part (flat_listener granted) limit f ms false 0 cuts [])) (zero-add (length ms))))
    (grown b r m granted limit w ends (cuts (length ms))
    (talk_part (flat_listener granted) limit f ms false 0 cuts []) good same leads bytes)

-- after the message that ends a transfer the flat world is idle
pub part-idle : (granted : ℕ → Option ℕ) (limit : ℕ) (f : FlatListener) (ms : List MessageView) (cuts : ℕ → Option ℕ) (m : MessageView)
    (ends : Bool)
    → is_good (talk_part (flat_listener granted) limit f ms false 0 cuts []).end ≡ true
    → EndsTransfer ends (talk_part (flat_listener granted) limit f (ms ++ m ∷ []) ends 0 cuts []).end
    → (talk_part (flat_listener granted) limit f (ms ++ m ∷ []) ends 0 cuts []).now ≡ idle
    (talk_part (flat_listener granted) limit f (ms ++ m ∷ []) ends 0 cuts []).now.states
part-idle granted limit f ms cuts m ends good =
    let a : AllTold FlatListener = talk_part (flat_listener granted) limit f ms false 0 cuts [] in
    let u : TalkTold FlatListener = talk (flat_listener granted) limit a.now m ends (cuts (0 + length ms)) in
    subst (λ (x : AllTold FlatListener). EndsTransfer ends x.end → x.now ≡ idle x.now.states)
    (sym (part-more (flat_listener granted) limit cuts f ms m ends 0 []
    ∙ ap (λ (g : Bool). cond g (record { bytes = with_read a.bytes m u; now = u.now; end = u.end }) a) good))
    (λ over. flat-settled granted limit a.now m ends (cuts (0 + length ms)) over)

-- the messages that were said, up to the one that ended the transfer, are the whole transfer in the flat world
pub part-whole : (b : BoardView) (xs : List TargetState) (t : TransferView) (cut : Cut) (cuts : ℕ → Option ℕ) (ms rest : List MessageView)
    → messages_of t ≡ ms ++ rest → ((j : ℕ) → j < length ms → cuts j ≡ cut_in cut j)
    → EndsTransfer (is_empty rest)
    (talk_part (flat_listener (granted_on b t.bus t.force)) (block_limit b) (idle xs) ms (is_empty rest) 0 cuts []).end
    → flat_messages b xs t cut ≡ talk_part (flat_listener (granted_on b t.bus t.force)) (block_limit b) (idle xs) ms
    (is_empty rest) 0 cuts []
part-whole b xs t cut cuts ms rest all same over =
    ap (λ (ys : List MessageView). talk_all l (block_limit b) (idle xs) ys 0 (cut_in cut) []) all ∙ by rest over
    ∙ sym (part-cuts l (block_limit b) cuts (cut_in cut) (idle xs) ms (is_empty rest) 0 [] (λ j below. ap cuts (zero-add j) ∙ same j below
    ∙ ap (cut_in cut) (sym (zero-add j))))
  where
    l : Listener FlatListener
    l = flat_listener (granted_on b t.bus t.force)

    again : (ends : Bool) → talk_part l (block_limit b) (idle xs) ms ends 0 cuts [] ≡ talk_part l (block_limit b) (idle xs) ms ends 0
        (cut_in cut) []
    again ends = part-cuts l (block_limit b) cuts (cut_in cut) (idle xs) ms ends 0 [] (λ j below. ap cuts (zero-add j) ∙ same j below
        ∙ ap (cut_in cut) (sym (zero-add j)))

    by : (ys : List MessageView) → EndsTransfer (is_empty ys) (talk_part l (block_limit b) (idle xs) ms (is_empty ys) 0 cuts []).end
        → talk_all l (block_limit b) (idle xs) (ms ++ ys) 0 (cut_in cut) [] ≡ talk_part l (block_limit b) (idle xs) ms (is_empty ys) 0
        (cut_in cut) []
    by [] e =
        ap (λ (zs : List MessageView). talk_all l (block_limit b) (idle xs) zs 0 (cut_in cut) []) (append-nil ms)
        ∙ sym (part-all l (block_limit b) (cut_in cut) (idle xs) ms 0 [])
    by (y ∷ ys) e =
        elim e [
          | inl last ↦ absurd (let f : false ≡ true = last in cc)
          | inr bad ↦ part-stops l (block_limit b) (cut_in cut) (idle xs) ms y ys 0 []
              (sym (ap (λ (a : AllTold FlatListener). is_good a.end) (again false)) ∙ bad)
        ]
