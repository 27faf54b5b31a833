-- What a message tells that went through: of a write all of its bytes, of a read as many as it asks for. The inductions go
-- over the bytes of a write, and over those that are left to read.
use Rattle.bus_laws.proofs.Cited.{◌≡◌, ℕ, zero, suc, ◌+◌, ◌-◌, ◌≤◌, Bool, true, false, cond, ◌||◌, List, [], ◌∷◌, ◌++◌, length, Option, eqb}
use Rattle.bus_laws.proofs.Cited.{ltb, refl, sym, ◌∙◌, ap, arith, append-nil, MatchBool, count_of, Answer, PortCall, End, MessageView}
use Rattle.bus_laws.proofs.Cited.{Listener, Said, TalkTold, is_it, silence, say, with_byte, told, call_then, ended, puts, gets}
use Rattle.bus_laws.proofs.Cited.{gets_counted, by_answer, talk}
use Rattle.std.proofs.Common.{append_assoc}
use Rattle.i2c_base.specs.declared.event.Answer.TheVariants as answer
use Rattle.i2c_base.specs.declared.port.PortCall.TheVariants as call
use Rattle.i2c_base.specs.declared.entry.End.TheVariants as end
use Rattle.i2c_spec.specs.Conversation.{data_of}
use Rattle.bus_laws.proofs.world.TalkSizes.{good_count}

-- as many bytes as it asks for; of a counted read first how many more come, within the limit
abbrev pub GaveRead : ℕ → Bool → ℕ → List ℕ → Type 0
GaveRead limit counted len bytes = MatchBool counted
    ((1 ≤ count_of bytes) × (count_of bytes ≤ limit) × (length bytes ≡ len + count_of bytes)) (length bytes ≡ len)

module _ {W : Type 0} (l : Listener W) (cut : Option ℕ) where
  -- a message that went through has this
  abbrev IfThrough : (List ℕ → Type 0) → TalkTold W → Type 0
  IfThrough P u = u.end ≡ end.Ok → P u.bytes

  then_through : (P : List ℕ → Type 0) (t : Said W) (c : PortCall) (next : Said W → TalkTold W) → IfThrough P (next (say l t c))
      → IfThrough P (call_then l cut t c next)
  then_through P t c next h = by (is_it cut (length t.calls))
    where
      by : (x : Bool) → IfThrough P (cond x (told (say l t call.Fault) (end.Cut (length t.calls))) (next (say l t c)))
      by true = λ e. absurd (let f : end.Cut (length t.calls) ≡ end.Ok = e in cc)
      by false = h

  ended_through : (P : List ℕ → Type 0) (stops : Bool) (t : Said W) (e : End) → (e ≡ end.Ok → P t.bytes)
      → IfThrough P (ended l cut stops t e)
  ended_through P true t e h = then_through P t call.Stop (λ s. told s e) h
  ended_through P false t e h = h

  -- so many more bytes
  abbrev Grown : List ℕ → ℕ → List ℕ → Type 0
  Grown old n bytes = (more : List ℕ) × (bytes ≡ old ++ more) × (length more ≡ n)

  gets_through : (last : Bool) (n : ℕ) (t : Said W) → IfThrough (Grown t.bytes n) (gets l cut last n t)
  gets_through last zero t = ended_through (Grown t.bytes 0) last t end.Ok (λ e. ([], sym (append-nil t.bytes), refl))
  gets_through last (suc n) t =
      let byte : ℕ = l.gives t.now in
      let c : PortCall = call.Get (ltb 0 n) in
      then_through (Grown t.bytes (suc n)) t c (λ s. gets l cut last n (with_byte s byte))
      (λ e. let g = gets_through last n (with_byte (say l t c) byte) e in
      (byte ∷ g.0, g.1 ∙ append_assoc t.bytes (byte ∷ []) g.0, ap suc g.2))

  counted_through : (last : Bool) (limit len : ℕ) (t : Said W) → t.bytes ≡ []
      → IfThrough (GaveRead limit true len) (gets_counted l cut last limit len t)
  counted_through last limit len t empty =
      let byte : ℕ = l.gives t.now in
      let s : Said W = say l t (call.Get true) in
      let u : Said W = with_byte s byte in
      then_through (GaveRead limit true len) t (call.Get true)
      (λ s. cond (eqb byte 0 || ltb limit byte)
      (call_then l cut (with_byte s byte) (call.Get false) (λ w. ended l cut true (with_byte w (l.gives s.now)) end.Proto))
      (gets l cut last (byte + len - 1) (with_byte s byte)))
      (by byte u (λ w. ended l cut true (with_byte w (l.gives s.now)) end.Proto) (ap (λ (xs : List ℕ). xs ++ byte ∷ []) empty)
      (λ w. ended_through (GaveRead limit true len) true (with_byte w (l.gives s.now)) end.Proto
      (λ e. absurd (let f : end.Proto ≡ end.Ok = e in cc))) (eqb byte 0 || ltb limit byte) refl)
    where
      good : (byte : ℕ) (bytes more : List ℕ) → bytes ≡ byte ∷ more → length more ≡ byte + len - 1 → (1 ≤ byte) × (byte ≤ limit)
          → GaveRead limit true len bytes
      good byte bytes more is many count =
          let first : count_of bytes ≡ byte = ap count_of is in
          let all : length bytes ≡ suc (length more) = ap (λ (xs : List ℕ). length xs) is in
          (omega (arith, first, count.0), omega (arith, first, count.1), omega (arith, all, many, first, count.0))

      by : (byte : ℕ) (u : Said W) (bad : Said W → TalkTold W) → u.bytes ≡ byte ∷ []
          → ((w : Said W) → IfThrough (GaveRead limit true len) (bad w)) → (x : Bool) → (eqb byte 0 || ltb limit byte) ≡ x
          → IfThrough (GaveRead limit true len) (cond x (call_then l cut u (call.Get false) bad) (gets l cut last (byte + len - 1) u))
      by byte u bad is never true e = then_through (GaveRead limit true len) u (call.Get false) bad (never (say l u (call.Get false)))
      by byte u bad is never false e =
          λ ok.
          let g = gets_through last (byte + len - 1) u ok in
          good byte (gets l cut last (byte + len - 1) u).bytes g.0 (g.1 ∙ ap (λ (xs : List ℕ). xs ++ g.0) is) g.2 (good_count byte limit e)

  never_through : (P : List ℕ → Type 0) (t : Said W) (e : End) → (e ≡ end.Ok → ⊥) → IfThrough P (ended l cut true t e)
  never_through P t e bad = ended_through P true t e (λ ok. absurd (bad ok))

  plain_gave : (limit len : ℕ) (bytes : List ℕ) → Grown [] len bytes → GaveRead limit false len bytes
  plain_gave limit len bytes g = ap (λ (xs : List ℕ). length xs) g.1 ∙ g.2

  -- the bytes go on, or nobody acknowledged
  answer_through : (P : List ℕ → Type 0) (last : Bool) (limit : ℕ) (m : MessageView) (a : Answer) (t : Said W)
      → IfThrough P (data_of l cut last limit m t) → IfThrough P (by_answer l cut last limit m a t)
  answer_through P last limit m answer.Ack t inside = inside
  answer_through P last limit m answer.Slow t inside = never_through P t end.Slow (λ e. let f : end.Slow ≡ end.Ok = e in cc)
  answer_through P last limit m answer.Nack t inside = never_through P t end.Nack (λ e. let f : end.Nack ≡ end.Ok = e in cc)
  answer_through P last limit m (answer.Byte byte) t inside = never_through P t end.Nack (λ e. let f : end.Nack ≡ end.Ok = e in cc)
  answer_through P last limit m answer.Nothing t inside = never_through P t end.Nack (λ e. let f : end.Nack ≡ end.Ok = e in cc)

  talk_through : (P : List ℕ → Type 0) (limit : ℕ) (w : W) (m : MessageView) (last : Bool)
      → ((t : Said W) → t.bytes ≡ [] → IfThrough P (data_of l cut last limit m t)) → IfThrough P (talk l limit w m last cut)
  talk_through P limit w m last inside =
      then_through P (silence w) (call.Start m.addr m.reading) (λ t. by_answer l cut last limit m (l.answer w m.addr m.reading) t)
      (answer_through P last limit m (l.answer w m.addr m.reading) (say l (silence w) (call.Start m.addr m.reading))
      (inside (say l (silence w) (call.Start m.addr m.reading)) refl))

  -- READS
  read_through : (last : Bool) (limit : ℕ) (m : MessageView) → m.reading ≡ true → (t : Said W) → t.bytes ≡ []
      → IfThrough (GaveRead limit m.counted m.len) (data_of l cut last limit m t)
  read_through last limit m reads t empty = by m.reading reads m.counted
    where
      by : (reading : Bool) → reading ≡ true → (counted : Bool)
          → IfThrough (GaveRead limit counted m.len)
          (cond reading (cond counted (gets_counted l cut last limit m.len t) (gets l cut last m.len t)) (puts l cut last m.bytes t))
      by true e true = counted_through last limit m.len t empty
      by true e false = λ ok. (let g = gets_through last m.len t ok in
          plain_gave limit m.len (gets l cut last m.len t).bytes (g.0, g.1 ∙ ap (λ (xs : List ℕ). xs ++ g.0) empty, g.2))
      by false e counted = absurd (let f : false ≡ true = e in cc)

  pub talk-reads : (limit : ℕ) (w : W) (m : MessageView) (last : Bool) → m.reading ≡ true → (talk l limit w m last cut).end ≡ end.Ok
      → GaveRead limit m.counted m.len (talk l limit w m last cut).bytes
  talk-reads limit w m last reads = talk_through (GaveRead limit m.counted m.len) limit w m last (read_through last limit m reads)

  -- WRITES
  puts_through : (last : Bool) (bytes : List ℕ) (t : Said W) → IfThrough (λ xs. xs ≡ t.bytes ++ bytes) (puts l cut last bytes t)
  puts_through last [] t = ended_through (λ xs. xs ≡ t.bytes ++ []) last t end.Ok (λ e. sym (append-nil t.bytes))
  puts_through last (b ∷ bs) t =
      let s : Said W = say l t (call.Put b) in
      then_through (λ xs. xs ≡ t.bytes ++ b ∷ bs) t (call.Put b)
      (λ u. cond (l.takes t.now b) (puts l cut last bs (with_byte u b)) (ended l cut true u end.Refused))
      (by s (l.takes t.now b) (λ ok. puts_through last bs (with_byte s b) ok ∙ append_assoc t.bytes (b ∷ []) bs))
    where
      by : (s : Said W) (taken : Bool) → IfThrough (λ xs. xs ≡ t.bytes ++ b ∷ bs) (puts l cut last bs (with_byte s b))
          → IfThrough (λ xs. xs ≡ t.bytes ++ b ∷ bs) (cond taken (puts l cut last bs (with_byte s b)) (ended l cut true s end.Refused))
      by s true rest = rest
      by s false rest = never_through (λ xs. xs ≡ t.bytes ++ b ∷ bs) s end.Refused (λ e. let f : end.Refused ≡ end.Ok = e in cc)

  write_through : (last : Bool) (limit : ℕ) (m : MessageView) → m.reading ≡ false → (t : Said W) → t.bytes ≡ []
      → IfThrough (λ xs. xs ≡ m.bytes) (data_of l cut last limit m t)
  write_through last limit m writes t empty = by m.reading writes
    where
      by : (reading : Bool) → reading ≡ false
          → IfThrough (λ xs. xs ≡ m.bytes)
          (cond reading (cond m.counted (gets_counted l cut last limit m.len t) (gets l cut last m.len t)) (puts l cut last m.bytes t))
      by true e = absurd (let f : true ≡ false = e in cc)
      by false e = λ ok. puts_through last m.bytes t ok ∙ ap (λ (xs : List ℕ). xs ++ m.bytes) empty

  pub talk-writes : (limit : ℕ) (w : W) (m : MessageView) (last : Bool) → m.reading ≡ false → (talk l limit w m last cut).end ≡ end.Ok
      → (talk l limit w m last cut).bytes ≡ m.bytes
  talk-writes limit w m last writes = talk_through (λ xs. xs ≡ m.bytes) limit w m last (write_through last limit m writes)
