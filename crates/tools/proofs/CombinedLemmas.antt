-- DATA and messages, read one by one as a loop does.
use Rattle.tools.proofs.Cited.{◌≡◌, ℕ, zero, suc, ◌+◌, ◌-◌, ◌%◌, ◌<◌, ◌≤◌, Bool, true, false, cond, List, [], ◌∷◌, ◌++◌, Some, Result, Ok}
use Rattle.tools.proofs.Cited.{Err, sym, ap, ◌∙◌, arith, refl, datum_word, by_datum, head_of, bytes_asked, desc_of, message_at, first_place}
use Rattle.tools.proofs.Cited.{some_descs, Class, Grammar, class, maybe, read_at, Word, ◌>>=◌, one_at, is_past, FaultIs, LineFault, Cmd}
use Rattle.tools.proofs.Cited.{Datum, Desc}
use Rattle.std.proofs.Common.{◌==◌}
use Rattle.tools.specs.Combined.{counted, data_at, data_words, read_datum, descs_at, descs}
use Rattle.tools.specs.declared.fault.LineFault.TheVariants as fault
use Rattle.tools.specs.declared.command.transfer.Datum.TheVariants as datum
use Rattle.tools.specs.declared.command.transfer.DescPlace.{DescPlace}

pub counted_none : (n k b s : ℕ) → n ≤ k → counted (n - k) b s ≡ []
unfolding counted
counted_none n k b s le = let e : n - k ≡ 0 = omega arith in rw e

pub counted_more : (n k b s : ℕ) → k < n → counted (n - k) b s ≡ b ∷ counted (n - (k + 1)) ((b + s) % 256) s
unfolding counted
counted_more n k b s lt = let e : n - k ≡ suc (n - (k + 1)) = omega arith in rw e

-- ---- data, byte by byte

module _ (n k m : ℕ) (got : List ℕ) (ws : List Word) (i : ℕ) (whole : Result (List ℕ × ℕ) ℕ) (same : data_at (n - k) got ws i ≡ whole)
    (e : n - k ≡ suc m) where
  pub datum_refused : (j : ℕ) → one_at (datum_word (m == 0)).of ws i ≡ Err j → whole ≡ Err j
  unfolding data_at
  datum_refused j is = sym same ∙ rw (e, is)

  pub one_here : (b : ℕ) → one_at (datum_word (m == 0)).of ws i ≡ Ok (datum.One b)
      → data_at (n - (k + 1)) (got ++ b ∷ []) ws (i + 1) ≡ whole
  unfolding data_at
  one_here b is =
      let f : n - (k + 1) ≡ m = omega (arith, e) in
      let read : whole ≡ data_at m (got ++ b ∷ []) ws (i + 1) = sym same ∙ rw (e, is) in
      rw f (sym read)

  pub series_here : (p : ℕ × ℕ) → one_at (datum_word (m == 0)).of ws i ≡ Ok (datum.Series p)
      → whole ≡ Ok (got ++ counted (n - k) p.0 p.1, i + 1)
  unfolding data_at
  series_here p is =
      let f : n - k ≡ m + 1 = omega (arith, e) in
      let read : whole ≡ Ok (got ++ counted (m + 1) p.0 p.1, i + 1) = sym same ∙ rw (e, is) in
      read ∙ ap (λ (x : ℕ). Ok (got ++ counted x p.0 p.1, i + 1)) (sym f)

module _ (n k : ℕ) (got : List ℕ) (ws : List Word) (i : ℕ) (whole : Result (List ℕ × ℕ) ℕ) (same : data_at (n - k) got ws i ≡ whole) where
  pub data_over : n ≤ k → whole ≡ Ok (got, i)
  unfolding data_at
  data_over le = let e : n - k ≡ 0 = omega arith in sym same ∙ rw e

-- ---- data are read, and then what stands behind them

by_then : {A : Type 0} (d : Result Datum ℕ) (one : ℕ → Grammar A) (series : ℕ → ℕ → Grammar A) (more : ℕ → Result (List ℕ × ℕ) ℕ)
    (last : ℕ → ℕ → Result (List ℕ × ℕ) ℕ)
    (ws : List Word) (j : ℕ) (f : List ℕ × ℕ → Result A ℕ)
    → ((b : ℕ) → read_at (one b) ws j ≡ (more b >>= f)) → ((b s : ℕ) → read_at (series b s) ws j ≡ (last b s >>= f))
    → (d >>= λ x. read_at (by_datum one series x) ws j) ≡ ((d >>= read_datum more last) >>= f)
by_then (Err k) one series more last ws j f h g = refl
by_then (Ok (datum.One b)) one series more last ws j f h g = h b
by_then (Ok (datum.Series p)) one series more last ws j f h g = g p.0 p.1

pub read_data : {A : Type 0} (n : ℕ) (got : List ℕ) (k : List ℕ → Grammar A) (ws : List Word) (i : ℕ)
    → read_at (data_words n got k) ws i ≡ (data_at n got ws i >>= λ o. read_at (k o.0) ws o.1)
unfolding data_at data_words
read_data zero got k ws i = refl
read_data (suc n) got k ws i =
    by_then (one_at (datum_word (n == 0)).of ws i) (λ b. data_words n (got ++ b ∷ []) k) (λ b s. k (got ++ counted (n + 1) b s))
    (λ b. data_at n (got ++ b ∷ []) ws (i + 1)) (λ b s. Ok (got ++ counted (n + 1) b s, i + 1)) ws (i + 1)
    (λ o. read_at (k o.0) ws o.1)
    (λ b. read_data n (got ++ b ∷ []) k ws (i + 1)) (λ b s. refl)

-- ---- messages, one by one

pub then_then : {A B C : Type 0} (r : Result A ℕ) (f : A → Result B ℕ) (g : B → Result C ℕ) → ((r >>= f) >>= g) ≡ (r >>= λ x. f x >>= g)
then_then (Ok x) f g = refl
then_then (Err k) f g = refl

pub same_then : {A B : Type 0} (r : Result A ℕ) (f g : A → Result B ℕ) → ((x : A) → f x ≡ g x) → (r >>= f) ≡ (r >>= g)
same_then (Ok x) f g h = h x
same_then (Err k) f g h = refl

pub cond_then : {A B : Type 0} (b : Bool) (x y : Result A ℕ) (u v : Result B ℕ) (g : A → Result B ℕ) → u ≡ (x >>= g) → v ≡ (y >>= g)
    → cond b u v ≡ (cond b x y >>= g)
cond_then true x y u v g p q = p
cond_then false x y u v g p q = q

-- reading a message in one step, or in two
module _ {B : Type 0} (p : DescPlace) (got : List Desc) (ws : List Word) (f : List Desc × DescPlace → Result (List Desc) ℕ)
    (g : List Desc → Result B ℕ) where
  in_steps : ((message_at p got ws >>= f) >>= g) ≡
      (one_at (head_of p.held p.room) ws p.at >>= λ d.
      data_at (bytes_asked d) [] ws (p.at + 1) >>= λ o.
      f (got ++ desc_of d o.0 ∷ [], record { at = o.1; room = p.room - d.len; held = Some d.addr }) >>= g)
  in_steps =
      then_then (message_at p got ws) f g
      ∙ then_then (one_at (head_of p.held p.room) ws p.at) _ (λ x. f x >>= g)
      ∙ same_then (one_at (head_of p.held p.room) ws p.at) _ _
      (λ d. then_then (data_at (bytes_asked d) [] ws (p.at + 1)) _ (λ x. f x >>= g))

module _ (made : List Desc → Cmd) where
  abbrev whole_line : List Desc → Result Cmd ℕ
  whole_line ms = Ok (made ms)

  -- messages are read, and are the command
  pub read_descs : (n : ℕ) (p : DescPlace) (got : List Desc) (ws : List Word)
      → read_at (descs made n p.room p.held got) ws p.at ≡ (descs_at n p got ws >>= whole_line)
  unfolding descs descs_at
  read_descs zero p got ws = cond_then (is_past ws p.at) (Ok got) (Err p.at) (Ok (made got)) (Err p.at) whole_line refl refl
  read_descs (suc n) p got ws =
      same_then (one_at (head_of p.held p.room) ws p.at) _ _ (λ d.
      read_data (bytes_asked d) [] (λ bytes. maybe (made (got ++ desc_of d bytes ∷ []))
      (descs made n (p.room - d.len) (Some d.addr) (got ++ desc_of d bytes ∷ []))) ws (p.at + 1)
      ∙ same_then (data_at (bytes_asked d) [] ws (p.at + 1)) _ _ (λ o.
      cond_then (is_past ws o.1) (Ok (got ++ desc_of d o.0 ∷ []))
      (descs_at n (record { at = o.1; room = p.room - d.len; held = Some d.addr }) (got ++ desc_of d o.0 ∷ []) ws) _ _ whole_line refl
      (read_descs n (record { at = o.1; room = p.room - d.len; held = Some d.addr }) (got ++ desc_of d o.0 ∷ []) ws)))
      ∙ sym (in_steps p got ws (λ o. cond (is_past ws o.1.at) (Ok o.0) (descs_at n o.1 o.0 ws)) whole_line)

-- what stands behind a number, as that of a bus is, is read as messages
module _ (number : Class ℕ) (made : ℕ → List Desc → Cmd) (ws : List Word) (i n : ℕ) (is : one_at number.of ws i ≡ Ok n) where
  whole_read : read_at (class number (λ x. some_descs (made x))) ws i ≡ (descs_at 42 (first_place (i + 1)) [] ws >>= whole_line (made n))
  whole_read = rw is (read_descs (made n) 42 (first_place (i + 1)) [] ws)

  pub messages_read : (ms : List Desc) → descs_at 42 (first_place (i + 1)) [] ws ≡ Ok ms
      → read_at (class number (λ x. some_descs (made x))) ws i ≡ Ok (made n ms)
  messages_read ms read = whole_read ∙ ap (λ (x : Result (List Desc) ℕ). x >>= whole_line (made n)) read

  pub messages_refused : (f : LineFault) → FaultIs (descs_at 42 (first_place (i + 1)) [] ws) f
      → FaultIs (read_at (class number (λ x. some_descs (made x))) ws i) f
  messages_refused (fault.Word k) h = whole_read ∙ ap (λ (x : Result (List Desc) ℕ). x >>= whole_line (made n)) h
  messages_refused fault.Memory h = tt

module _ (n k : ℕ) (p : DescPlace) (got : List Desc) (ws : List Word) (whole : Result (List Desc) ℕ)
    (same : descs_at (n - k) p got ws ≡ whole) where
  message_refused : (j : ℕ) → k < n → message_at p got ws ≡ Err j → whole ≡ Err j
  unfolding descs_at
  message_refused j lt is = let e : n - k ≡ suc (n - (k + 1)) = omega arith in sym same ∙ rw (e, is)

  pub message_faulty : (f : LineFault) → k < n → FaultIs (message_at p got ws) f → FaultIs whole f
  message_faulty (fault.Word j) lt h = message_refused j lt h
  message_faulty fault.Memory lt h = tt

  pub line_over : (ms : List Desc) (q : DescPlace) → k < n → message_at p got ws ≡ Ok (ms, q) → is_past ws q.at ≡ true → whole ≡ Ok ms
  unfolding descs_at
  line_over ms q lt is over = let e : n - k ≡ suc (n - (k + 1)) = omega arith in sym same ∙ rw (e, is, over)

  pub line_on : (ms : List Desc) (q : DescPlace) → k < n → message_at p got ws ≡ Ok (ms, q) → is_past ws q.at ≡ false
      → descs_at (n - (k + 1)) q ms ws ≡ whole
  unfolding descs_at
  line_on ms q lt is more = let e : n - k ≡ suc (n - (k + 1)) = omega arith in sym (sym same ∙ rw (e, is, more))

  pub too_many : n ≤ k → is_past ws p.at ≡ false → whole ≡ Err p.at
  unfolding descs_at
  too_many le more = let e : n - k ≡ 0 = omega arith in sym same ∙ rw (e, more)
