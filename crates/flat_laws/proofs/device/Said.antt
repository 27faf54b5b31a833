-- A transfer under way: what is said of it in the flat world, and one message more.
use Rattle.flat_laws.proofs.Cited.{◌≡◌, ℕ, suc, ◌+◌, ◌-◌, ◌<◌, Bool, true, false, cond, List, [], ◌∷◌, ◌++◌, length, Option, Some, None}
use Rattle.flat_laws.proofs.Cited.{eqb, refl, sym, ◌∙◌, ap, subst, arith, zero-add, slice_get, eq-eqb, ne_eqb, End, Reply, Cut, BoardView}
use Rattle.flat_laws.proofs.Cited.{AreBytes, TransferView, root_of, IsTree, TargetState, MessageView, messages_of, World, FlatListener}
use Rattle.flat_laws.proofs.Cited.{FlatTold, idle, flat_listener, granted_on, block_limit, cut_in, errno_of, or_done, barred, flat_by}
use Rattle.flat_laws.proofs.Cited.{flat_messages, flat, Listener, TalkTold, AllTold, world_listener, talk, is_empty, is_good, Call, Sent}
use Rattle.flat_laws.proofs.Cited.{verdict_of, message_cut, cut_of, reply_by, IsOf, Same, LeadsTo, EndsTransfer, talk_part, GrowsAlike}
use Rattle.flat_laws.proofs.Cited.{said_so_far}
use Rattle.std.proofs.lemmas.List.{append_assoc}
use Rattle.i2c_base.specs.declared.entry.End.TheVariants as end
use Rattle.i2c_base.specs.declared.entry.Purpose.TheVariants as purpose
use Rattle.flat_laws.proofs.device.Parts.{part-cuts, part-grows, part-idle, part-whole}
use Rattle.flat_laws.proofs.device.Flat.{granted-own, flat_part-alike, same-alike}

-- the messages before the next one were said, and went through: what they read, and the devices of the root
pub record IsSaid (b : BoardView) (ahead : List TargetState) (t : TransferView) (w : World) (got : List ℕ) (left : ℕ) : Type 0 where
  pub before : List MessageView
  pub next : MessageView
  pub rest : List MessageView
  pub all : messages_of t ≡ before ++ next ∷ rest
  pub so_many : left ≡ length rest
  pub good : is_good (said_so_far b t ahead before).end ≡ true
  pub read : got ≡ (said_so_far b t ahead before).bytes
  pub same : Same b (root_of b t.bus) w (said_so_far b t ahead before).now

-- it depends on the devices of its own root alone
pub said-elsewhere : (b : BoardView) → IsTree b → (xs ys : List TargetState) (t : TransferView) (w : World) (got : List ℕ) (left : ℕ)
    → ((d : ℕ) → IsOf b (root_of b t.bus) d → slice_get xs d ≡ slice_get ys d) → IsSaid b xs t w got left → IsSaid b ys t w got left
said-elsewhere b tree xs ys t w got left same s =
    let alike = flat_part-alike b (root_of b t.bus) (granted_on b t.bus t.force) (λ a d e. granted-own b tree t.bus a t.force d e)
    (block_limit b) (idle xs) (idle ys) s.before false 0 (λ i. None) [] [] refl
    (record { states = same; named = refl; current = refl; own = λ d e. absurd (let z : None ≡ Some d = e in cc) }) in
    record {
      before = s.before;
      next = s.next;
      rest = s.rest;
      all = s.all;
      so_many = s.so_many;
      good = ap (λ (x : End). is_good x) (sym alike.end) ∙ s.good;
      read = s.read ∙ alike.bytes;
      same = same-alike b (root_of b t.bus) w (said_so_far b t xs s.before).now (said_so_far b t ys s.before).now s.same alike.now;
    }

-- the place of failure that a message's end tells
cuts_here : (e : End) (part n : ℕ) → part - 1 ≡ n → cut_in (message_cut purpose.Call part e) n ≡ cut_of e
cuts_here end.Ok part n at = refl
cuts_here end.Nack part n at = refl
cuts_here end.Slow part n at = refl
cuts_here end.Refused part n at = refl
cuts_here end.Proto part n at = refl
cuts_here (end.Cut q) part n at = ap (λ (x : Bool). cond x (Some q) None) (eq-eqb (part - 1) n at)

cuts_before : (e : End) (part n j : ℕ) → part - 1 ≡ n → j < n → cut_in (message_cut purpose.Call part e) j ≡ None
cuts_before end.Ok part n j at below = refl
cuts_before end.Nack part n j at below = refl
cuts_before end.Slow part n j at below = refl
cuts_before end.Refused part n j at below = refl
cuts_before end.Proto part n j at below = refl
cuts_before (end.Cut q) part n j at below = ap (λ (x : Bool). cond x (Some q) None)
    (ne_eqb (part - 1) j (λ f. absurd (omega (arith, f, at, below))))

cuts_good : (e : End) (part j : ℕ) → is_good e ≡ true → None ≡ cut_in (message_cut purpose.Call part e) j
cuts_good end.Ok part j good = refl
cuts_good end.Nack part j good = absurd (let f : false ≡ true = good in cc)
cuts_good end.Slow part j good = absurd (let f : false ≡ true = good in cc)
cuts_good end.Refused part j good = absurd (let f : false ≡ true = good in cc)
cuts_good end.Proto part j good = absurd (let f : false ≡ true = good in cc)
cuts_good (end.Cut q) part j good = absurd (let f : false ≡ true = good in cc)

is_last-is : (left : ℕ) (rest : List MessageView) → left ≡ length rest → eqb left 0 ≡ is_empty rest
is_last-is left [] at = eq-eqb left 0 at
is_last-is left (y ∷ ys) at = ne_eqb left 0 (λ f. absurd (omega (arith, f, at)))

-- the reply of a whole transfer
pub reply-is : (t : TransferView) (bus : ℕ) (ms : List MessageView) (left : ℕ) (e : End) (bytes got : List ℕ)
    → or_done (errno_of e) t got ≡ reply_by (verdict_of (Call bus ms) left (Sent e bytes)) (Some t) got
reply-is t bus ms left end.Ok bytes got = refl
reply-is t bus ms left end.Nack bytes got = refl
reply-is t bus ms left end.Slow bytes got = refl
reply-is t bus ms left end.Refused bytes got = refl
reply-is t bus ms left end.Proto bytes got = refl
reply-is t bus ms left (end.Cut q) bytes got = refl

-- ONE MESSAGE MORE
module _ (b : BoardView) (ahead : List TargetState) (t : TransferView) (w : World) (got : List ℕ) (left : ℕ)
    (s : IsSaid b ahead t w got left)
    (leads : LeadsTo w s.next.addr (granted_on b t.bus t.force s.next.addr)) (fits : AreBytes s.next.bytes)
    (part : ℕ) (at_part : part - 1 ≡ length s.before) (e : End) (bytes : List ℕ)
    (end_told : e ≡ (talk world_listener (block_limit b) w s.next (eqb left 0) (cut_of e)).end)
    (bytes_told : bytes ≡ (talk world_listener (block_limit b) w s.next (eqb left 0) (cut_of e)).bytes) where
  abbrev told : TalkTold World
  told = talk world_listener (block_limit b) w s.next (eqb left 0) (cut_of e)

  abbrev flats : Listener FlatListener
  flats = flat_listener (granted_on b t.bus t.force)

  abbrev cut : Cut
  cut = message_cut purpose.Call part e

  abbrev with_cut : List MessageView → Bool → AllTold FlatListener
  with_cut ms ends = talk_part flats (block_limit b) (idle ahead) ms ends 0 (cut_in cut) []

  abbrev more : List MessageView
  more = s.before ++ s.next ∷ []

  abbrev now_got : List ℕ
  now_got = cond s.next.reading (got ++ bytes) got

  before_same : said_so_far b t ahead s.before ≡ with_cut s.before false
  before_same =
      part-cuts flats (block_limit b) (λ i. None) (cut_in cut) (idle ahead) s.before false 0 []
      (λ j below. sym (ap (cut_in cut) (zero-add j) ∙ cuts_before e part (length s.before) j at_part below))

  good_before : is_good (with_cut s.before false).end ≡ true
  good_before = ap (λ (a : AllTold FlatListener). is_good a.end) (sym before_same) ∙ s.good

  grows : GrowsAlike b (root_of b t.bus) s.next (with_cut s.before false) told (with_cut more (eqb left 0))
  grows =
      subst (λ (o : Option ℕ). GrowsAlike b (root_of b t.bus) s.next (with_cut s.before false)
      (talk world_listener (block_limit b) w s.next (eqb left 0) o) (with_cut more (eqb left 0)))
      (cuts_here e part (length s.before) at_part)
      (part-grows b (root_of b t.bus) (granted_on b t.bus t.force) (block_limit b) (idle ahead) s.before (cut_in cut) w s.next
      (eqb left 0) good_before
      (subst (λ (a : AllTold FlatListener). Same b (root_of b t.bus) w a.now) before_same s.same) leads fits)

  end_is : (with_cut more (eqb left 0)).end ≡ e
  end_is = grows.end ∙ sym end_told

  bytes_are : now_got ≡ (with_cut more (eqb left 0)).bytes
  bytes_are =
      ap (λ (xs : List ℕ). cond s.next.reading (xs ++ bytes) xs) (s.read ∙ ap (λ (a : AllTold FlatListener). a.bytes) before_same)
      ∙ ap (λ (ys : List ℕ). cond s.next.reading ((with_cut s.before false).bytes ++ ys) (with_cut s.before false).bytes) bytes_told
      ∙ sym grows.bytes

  -- it goes on
  pub said-more : (l : ℕ) → left ≡ suc l → is_good e ≡ true → IsSaid b ahead t told.now now_got l
  said-more l is good = by s.rest refl
    where
      same_more : said_so_far b t ahead more ≡ with_cut more (eqb left 0)
      same_more =
          part-cuts flats (block_limit b) (λ i. None) (cut_in cut) (idle ahead) more false 0 [] (λ j below. cuts_good e part (0 + j) good)
          ∙ ap (λ (x : Bool). with_cut more x) (sym (ne_eqb left 0 (λ f. absurd (omega (arith, f, is)))))

      by : (rest : List MessageView) → s.rest ≡ rest → IsSaid b ahead t told.now now_got l
      by [] at = absurd (let f : left ≡ 0 = s.so_many ∙ ap (λ (xs : List MessageView). length xs) at in omega (arith, f, is))
      by (y ∷ ys) at =
          record {
            before = more;
            next = y;
            rest = ys;
            all = s.all ∙ ap (λ (xs : List MessageView). s.before ++ s.next ∷ xs) at ∙ sym (append_assoc s.before (s.next ∷ []) (y ∷ ys));
            so_many = (let f : left ≡ suc (length ys) = s.so_many ∙ ap (λ (xs : List MessageView). length xs) at in omega (arith, f, is));
            good = ap (λ (a : AllTold FlatListener). is_good a.end) same_more ∙ ap (λ (x : End). is_good x) end_is ∙ good;
            read = bytes_are ∙ ap (λ (a : AllTold FlatListener). a.bytes) (sym same_more);
            same = subst (λ (a : AllTold FlatListener). Same b (root_of b t.bus) told.now a.now) (sym same_more) grows.now;
          }

  -- or the transfer ends with it
  module _ (over : EndsTransfer (eqb left 0) e) where
    abbrev pub left_states : List TargetState
    left_states = (with_cut more (eqb left 0)).now.states

    ends : EndsTransfer (eqb left 0) (with_cut more (eqb left 0)).end
    ends = subst (λ (x : End). EndsTransfer (eqb left 0) x) (sym end_is) over

    whole : flat_messages b ahead t cut ≡ with_cut more (eqb left 0)
    whole =
        let last : eqb left 0 ≡ is_empty s.rest = is_last-is left s.rest s.so_many in
        part-whole b ahead t cut (cut_in cut) more s.rest (s.all ∙ sym (append_assoc s.before (s.next ∷ []) s.rest)) (λ j below. refl)
        (subst (λ (x : Bool). EndsTransfer x (with_cut more x).end) last ends)
        ∙ ap (λ (x : Bool). with_cut more x) (sym last)

    pub said-whole : barred b t cut ≡ None → flat b ahead t cut ≡ record { reply = or_done (errno_of e) t now_got; states = left_states }
    said-whole clear =
        ap (λ o. flat_by b ahead t cut o) clear
        ∙ ap (λ (a : AllTold FlatListener). told_by (or_done (errno_of a.end) t a.bytes) a.now.states) whole
        ∙ ap (λ (x : End). told_by (or_done (errno_of x) t (with_cut more (eqb left 0)).bytes) left_states) end_is
        ∙ ap (λ (xs : List ℕ). told_by (or_done (errno_of e) t xs) left_states) (sym bytes_are)
      where
        told_by : Reply → List TargetState → FlatTold
        told_by r xs = record { reply = r; states = xs }

    pub same-whole : Same b (root_of b t.bus) told.now (idle left_states)
    same-whole =
        subst (λ (f : FlatListener). Same b (root_of b t.bus) told.now f)
        (part-idle (granted_on b t.bus t.force) (block_limit b) (idle ahead) s.before (cut_in cut) s.next (eqb left 0) good_before ends)
        grows.now
