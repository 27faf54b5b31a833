-- The messages of a transfer: what they hold, and which one comes next. The inductions go over the messages.
use Rattle.bus_laws.proofs.Cited.{◌≡◌, ℕ, suc, ◌+◌, ◌-◌, List, [], ◌∷◌, ◌++◌, length, refl, ◌∙◌, ap, subst, arith, take, drop, Msg, IsByte}
use Rattle.bus_laws.proofs.Cited.{AreBytes, written_of, MessageView, messages_from, nth_message}
use Rattle.std.proofs.lemmas.List.Elements.{All-take, All-drop}
use Rattle.i2c_spec.specs.Messages.{message_with}

-- the bytes that a message writes are bytes of its transfer
pub message-bytes : (ms : List Msg) (out : List ℕ) → AreBytes out → (before : List MessageView) (y : MessageView) (rest : List MessageView)
    → messages_from ms out ≡ before ++ y ∷ rest → AreBytes y.bytes
message-bytes [] out all [] y rest e = absurd (let f : [] ≡ y ∷ rest = e in cc)
message-bytes [] out all (x ∷ xs) y rest e = absurd (let f : [] ≡ x ∷ (xs ++ y ∷ rest) = e in cc)
message-bytes (m ∷ ms) out all [] y rest e =
    let f : message_with m (take (written_of m) out) ∷ messages_from ms (drop (written_of m) out) ≡ y ∷ rest = e in
    let g : message_with m (take (written_of m) out) ≡ y = cc in
    subst (λ (z : MessageView). AreBytes z.bytes) g (All-take IsByte (written_of m) out all)
message-bytes (m ∷ ms) out all (x ∷ xs) y rest e =
    let f : message_with m (take (written_of m) out) ∷ messages_from ms (drop (written_of m) out) ≡ x ∷ (xs ++ y ∷ rest) = e in
    let g : messages_from ms (drop (written_of m) out) ≡ xs ++ y ∷ rest = cc in
    message-bytes ms (drop (written_of m) out) (All-drop IsByte (written_of m) out all) xs y rest g

-- the message with so many before it
nth_behind : (before : List MessageView) (y : MessageView) (rest : List MessageView) → nth_message (before ++ y ∷ rest) (length before) ≡ y
nth_behind [] y rest = refl
nth_behind (x ∷ xs) y rest = nth_behind xs y rest

pub length-around : (before : List MessageView) (y : MessageView) (rest : List MessageView)
    → length (before ++ y ∷ rest) ≡ length before + suc (length rest)
length-around [] y rest = (let f : suc (length rest) ≡ 0 + suc (length rest) = omega arith in f)
length-around (x ∷ xs) y rest = (let e : length (xs ++ y ∷ rest) ≡ length xs + suc (length rest) = length-around xs y rest in
    omega (arith, e))

-- and with so many after it
pub nth-next : (ms before : List MessageView) (y : MessageView) (rest : List MessageView) (left : ℕ) → ms ≡ before ++ y ∷ rest
    → left ≡ length rest
    → nth_message ms (length ms - 1 - left) ≡ y
nth-next ms before y rest left all so_many =
    ap (λ (xs : List MessageView). nth_message xs (length xs - 1 - left)) all
    ∙ ap (λ (i : ℕ). nth_message (before ++ y ∷ rest) i)
    (let e : length (before ++ y ∷ rest) ≡ length before + suc (length rest) = length-around before y rest in omega (arith, e, so_many))
    ∙ nth_behind before y rest

pub part-next : (ms before : List MessageView) (y : MessageView) (rest : List MessageView) (left : ℕ) → ms ≡ before ++ y ∷ rest
    → left ≡ length rest
    → length ms - left - 1 ≡ length before
part-next ms before y rest left all so_many =
    let e : length (before ++ y ∷ rest) ≡ length before + suc (length rest) = length-around before y rest in
    let f : length ms ≡ length (before ++ y ∷ rest) = ap (λ (xs : List MessageView). length xs) all in
    omega (arith, e, f, so_many)
