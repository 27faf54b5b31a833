-- One message more of a transfer: message i stands before those that are left.
use Rattle.flat_world.proofs.Cited.{◌≡◌, ℕ, ◌+◌, ◌<◌, ◌≤◌, Bool, true, false, cond, eqb, List, [], ◌∷◌, length, take, drop, get_or, Option}
use Rattle.flat_world.proofs.Cited.{refl, sym, ap, ◌∙◌, arith, at_drop_more, nat_tests, Msg, End, written_of, MessageView, message_with}
use Rattle.flat_world.proofs.Cited.{messages_from, Listener, AllTold, talk, talk_all, is_empty, is_good, all_with, all_of}
use Rattle.std.proofs.Common.{length-drop}
use Rattle.std.specs.List.{sum_by}
use Rattle.std.proofs.lemmas.List.Sums.{sum_by-cons}

-- a message is the last one where none follows
is_empty_messages : (ms : List Msg) (out : List ℕ) → is_empty (messages_from ms out) ≡ is_empty ms
is_empty_messages [] out = refl
is_empty_messages (m ∷ ms) out = refl

is_empty_length : {X : Type 0} (xs : List X) → is_empty xs ≡ eqb 0 (length xs)
is_empty_length [] = refl
is_empty_length (x ∷ xs) = let e : eqb 0 (length (x ∷ xs)) ≡ false = grind (arith, nat_tests) in sym e

is_empty_drop : {X : Type 0} (xs : List X) (j : ℕ) → j ≤ length xs → is_empty (drop j xs) ≡ eqb j (length xs)
is_empty_drop xs j within =
    is_empty_length (drop j xs) ∙ (let n = length-drop j xs in
    let e : eqb 0 (length (drop j xs)) ≡ eqb j (length xs) = grind (arith, nat_tests, n) in e)

-- what follows a message, by how it ended
abbrev goes : {W : Type 0} → Listener W → ℕ → List MessageView → ℕ → (ℕ → Option ℕ) → AllTold W → AllTold W
goes l limit ms i cuts all = cond (is_good all.end) (talk_all l limit all.now ms i cuts all.bytes) all

-- the message in front, and what follows it
in_front : {W : Type 0} (l : Listener W) (limit : ℕ) (w : W) (msgs : List Msg) (rest : List ℕ) (i : ℕ) (cuts : ℕ → Option ℕ) (got : List ℕ)
    (m : Msg)
    → i < length msgs → m ≡ get_or msgs i m
    → talk_all l limit w (messages_from (drop i msgs) rest) i cuts got
    ≡ talk_all l limit w (messages_from (m ∷ drop (i + 1) msgs) rest) i cuts got
in_front l limit w msgs rest i cuts got m within is =
    at_drop_more (λ ms. talk_all l limit w (messages_from ms rest) i cuts got) msgs i m within
    ∙ ap (λ x. talk_all l limit w (messages_from (x ∷ drop (i + 1) msgs) rest) i cuts got) (sym is)

one_message : {W : Type 0} (l : Listener W) (limit : ℕ) (w : W) (msgs : List Msg) (rest : List ℕ) (i : ℕ) (cuts : ℕ → Option ℕ)
    (got : List ℕ) (m : Msg) (last : Bool) (all : AllTold W)
    → i < length msgs → m ≡ get_or msgs i m → last ≡ eqb (i + 1) (length msgs)
    → all ≡ all_of got (message_with m (take (written_of m) rest))
    (talk l limit w (message_with m (take (written_of m) rest)) last (cuts i))
    → talk_all l limit w (messages_from (drop i msgs) rest) i cuts got
    ≡ goes l limit (messages_from (drop (i + 1) msgs) (drop (written_of m) rest)) (i + 1) cuts all
one_message l limit w msgs rest i cuts got m last all within is ends was =
    let after = messages_from (drop (i + 1) msgs) (drop (written_of m) rest) in
    let message = message_with m (take (written_of m) rest) in
    let none : is_empty after ≡ last = is_empty_messages (drop (i + 1) msgs) (drop (written_of m) rest)
    ∙ is_empty_drop msgs (i + 1) (omega arith) ∙ sym ends in
    in_front l limit w msgs rest i cuts got m within is
    ∙ ap (λ b. goes l limit after (i + 1) cuts (all_of got message (talk l limit w message b (cuts i)))) none
    ∙ ap (goes l limit after (i + 1) cuts) (sym was)

pub went_through : {W : Type 0} (l : Listener W) (limit : ℕ) (w : W) (msgs : List Msg) (rest : List ℕ) (i : ℕ) (cuts : ℕ → Option ℕ)
    (got : List ℕ) (m : Msg) (last : Bool) (new : List ℕ) (next : W) (e : End)
    → i < length msgs → m ≡ get_or msgs i m → last ≡ eqb (i + 1) (length msgs)
    → all_with new next e ≡ all_of got (message_with m (take (written_of m) rest))
    (talk l limit w (message_with m (take (written_of m) rest)) last (cuts i))
    → is_good e ≡ true
    → talk_all l limit next (messages_from (drop (i + 1) msgs) (drop (written_of m) rest)) (i + 1) cuts new
    ≡ talk_all l limit w (messages_from (drop i msgs) rest) i cuts got
went_through l limit w msgs rest i cuts got m last new next e within is ends was good =
    let after = messages_from (drop (i + 1) msgs) (drop (written_of m) rest) in
    sym (one_message l limit w msgs rest i cuts got m last (all_with new next e) within is ends was
    ∙ ap (λ b. cond b (talk_all l limit next after (i + 1) cuts new) (all_with new next e)) good)

pub ended_early : {W : Type 0} (l : Listener W) (limit : ℕ) (w : W) (msgs : List Msg) (rest : List ℕ) (i : ℕ) (cuts : ℕ → Option ℕ)
    (got : List ℕ) (m : Msg) (last : Bool) (new : List ℕ) (next : W) (e : End)
    → i < length msgs → m ≡ get_or msgs i m → last ≡ eqb (i + 1) (length msgs)
    → all_with new next e ≡ all_of got (message_with m (take (written_of m) rest))
    (talk l limit w (message_with m (take (written_of m) rest)) last (cuts i))
    → is_good e ≡ false
    → all_with new next e ≡ talk_all l limit w (messages_from (drop i msgs) rest) i cuts got
ended_early l limit w msgs rest i cuts got m last new next e within is ends was bad =
    let after = messages_from (drop (i + 1) msgs) (drop (written_of m) rest) in
    sym (one_message l limit w msgs rest i cuts got m last (all_with new next e) within is ends was
    ∙ ap (λ b. cond b (talk_all l limit next after (i + 1) cuts new) (all_with new next e)) bad)

-- the message as it is cut out of what is left
pub cut_out : (m : Msg) (n : ℕ) (rest bytes : List ℕ) (message : MessageView) → n ≡ written_of m → bytes ≡ take n rest
    → message ≡ message_with m bytes → message ≡ message_with m (take (written_of m) rest)
cut_out m n rest bytes message e f h = h ∙ ap (message_with m) (f ∙ ap (λ k. take k rest) e)

-- what the messages that are left come to
pub left_over : (f : Msg → ℕ) (msgs : List Msg) (i : ℕ) (m : Msg) → i < length msgs → m ≡ get_or msgs i m
    → sum_by f (drop i msgs) ≡ f m + sum_by f (drop (i + 1) msgs)
left_over f msgs i m within is =
    at_drop_more (sum_by f) msgs i m within
    ∙ ap (λ x. sum_by f (x ∷ drop (i + 1) msgs)) (sym is)
    ∙ sum_by-cons f m (drop (i + 1) msgs)
