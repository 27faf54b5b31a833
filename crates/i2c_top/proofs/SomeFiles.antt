-- What a shelf gave, whatever it tells, as the files of other names: each file is called by the number of its place. The inductions go
-- over the texts.
use Rattle.i2c_top.proofs.Cited.{◌≡◌, ℕ, suc, zero, ◌+◌, ◌<◌, List, [], ◌∷◌, length, All, Option, None, Some, Ok, refl, sym, ◌∙◌, ap}
use Rattle.i2c_top.proofs.Cited.{subst, arith, Bool, true, false, if◌then◌else◌, slice_get, is_some, option_map, length-map, All-head, All-tail, CallerView}
use Rattle.i2c_top.proofs.Cited.{BoardView, IsSpelled, Files, IsAnyName, IsAcceptedIn, IsOrderIn, HasReadSome, HasReadSomeJournal}
use Rattle.i2c_top.proofs.Cited.{texts_of, schedule_read, script_name, texts_in, IsInGrammar, HasScript, HasScripts}
use Rattle.i2c_top.proofs.Cited.{Names, names_of, VerifyNames}
use Rattle.std.proofs.Common.{unwrap_or}
use Rattle.i2c_top.specs.Files.{OfSomeFiles}
use Rattle.i2c_top.specs.Readings.{HasReadSomeExtra}
use Rattle.i2c_top.specs.forms.Extras.{ExtraNames, ExtraRow, IsExtraSpelled}
use Rattle.i2c_top.specs.Scripts.{AreScheduled, AreOrdered}

-- the file of each place is one of these texts
abbrev contents : List (List ℕ) → Files
contents texts [] = None
contents texts (place ∷ []) = slice_get texts place
contents texts (place ∷ next ∷ more) = None

-- the names of so many texts, from a place on
abbrev numbered : ℕ → List (List ℕ) → List (List ℕ)
numbered place [] = []
numbered place (t ∷ ts) = (place ∷ []) ∷ numbered (suc place) ts

length-numbered : (place : ℕ) (texts : List (List ℕ)) → length (numbered place texts) ≡ length texts
length-numbered place [] = refl
length-numbered place (t ∷ ts) = ap suc (length-numbered (suc place) ts)

name-numbered : (place : ℕ) (texts : List (List ℕ)) (c at : ℕ) → c < length texts → at ≡ place + c
    → script_name (numbered place texts) c ≡ at ∷ []
name-numbered place [] c at low is = absurd (omega (arith, low))
name-numbered place (t ∷ ts) zero at low is = ap (λ (n : ℕ). n ∷ []) (let e : place ≡ at = omega (arith, is) in e)
name-numbered place (t ∷ ts) (suc c) at low is = name-numbered (suc place) ts c at (omega (arith, low)) (omega (arith, is))

-- from a place on these are the texts
abbrev AreFrom : List (List ℕ) → ℕ → List (List ℕ) → Type 0
AreFrom all place texts = (c at : ℕ) → at ≡ place + c → slice_get all at ≡ slice_get texts c

texts-numbered : (all : List (List ℕ)) (place : ℕ) (texts : List (List ℕ)) → AreFrom all place texts
    → texts_in (contents all) (numbered place texts) ≡ texts
texts-numbered all place [] are = refl
texts-numbered all place (t ∷ ts) are =
    ap (λ (o : Option (List ℕ)). unwrap_or o [] ∷ texts_in (contents all) (numbered (suc place) ts)) (are 0 place (omega arith))
    ∙ ap (λ (xs : List (List ℕ)). t ∷ xs) (texts-numbered all (suc place) ts (λ c at is. are (suc c) at (omega (arith, is))))

-- texts in the grammar are scripts there
text-at : (b : BoardView) (scripts : List CallerView) → All (λ s. IsInGrammar b s.script.text) scripts → (c : ℕ)
    → c < length (texts_of scripts)
    → (text : List ℕ) × (slice_get (texts_of scripts) c ≡ Some text) × IsInGrammar b text
text-at b [] grammar c low = absurd (omega (arith, low))
text-at b (s ∷ ss) grammar zero low = (s.script.text, refl, All-head (λ x. IsInGrammar b x.script.text) s ss grammar)
text-at b (s ∷ ss) grammar (suc c) low =
    text-at b ss (All-tail (λ x. IsInGrammar b x.script.text) s ss grammar) c (omega (arith, low))

scripts-numbered : (all : List (List ℕ)) (place : ℕ) (b : BoardView) (scripts : List CallerView)
    → All (λ s. IsInGrammar b s.script.text) scripts → AreFrom all place (texts_of scripts)
    → HasScripts (contents all) b (numbered place (texts_of scripts)) (length (numbered place (texts_of scripts)))
scripts-numbered all place b scripts grammar are c low =
    let below : c < length (texts_of scripts) = subst (λ (n : ℕ). c < n) (length-numbered place (texts_of scripts)) low in
    let t = text-at b scripts grammar c below in
    subst (λ (name : List ℕ). HasScript (contents all) b name) (sym (name-numbered place (texts_of scripts) c (place + c) below refl))
    (record { text = t.0; there = are c (place + c) refl ∙ t.1; read = t.2 })

-- .. as many as they were asked for
many-numbered : (place : ℕ) (scripts : List CallerView) (n : ℕ) → length scripts ≡ n → length (numbered place (texts_of scripts)) ≡ n
many-numbered place scripts n count =
    length-numbered place (texts_of scripts) ∙ length-map scripts (λ (s : CallerView). s.script.text) ∙ count

abbrev schedule_called : Option (List ℕ) → Option (List ℕ)
schedule_called schedule = option_map (λ name. 1 ∷ []) schedule

called-some : (schedule : Option (List ℕ)) → is_some (schedule_called schedule) ≡ is_some schedule
called-some None = refl
called-some (Some name) = refl

-- the text of the schedule, where there is one
schedule-text : (schedule : Option (List ℕ)) (callers : ℕ) (words : Option (List ℕ)) → AreOrdered schedule callers words → List ℕ
schedule-text None callers words are = []
schedule-text (Some name) callers words are = are.2.text

order-numbered : (board : List ℕ) (texts : List (List ℕ)) (schedule : Option (List ℕ)) (callers : ℕ) (words : Option (List ℕ))
    (are : AreOrdered schedule callers words)
    → IsOrderIn (contents (board ∷ schedule-text schedule callers words are ∷ texts)) (schedule_called schedule) callers words
unfolding schedule-text
order-numbered board texts None callers words are = record { has = tt; same = are }
order-numbered board texts (Some name) callers words are =
    record { has = record { text = are.2.text; words = are.0; there = refl; read = are.2.read }; same = are.1 }

accepted-numbered : (b : BoardView) (spelled : IsSpelled b) (texts : List (List ℕ)) → IsAcceptedIn (contents (spelled.text ∷ texts))
    (0 ∷ []) b
accepted-numbered b spelled texts =
    record { has = record { board = b; text = spelled.text; there = refl; is_accepted = spelled.is_accepted }; same = refl }

-- what follows of the files that a shelf tells follows of some files too
pub so-some : {N : Type 0} (IsLike : N → N → Type 0) (names : N) (P Q : Files → N → Type 0)
    → ((file : Files) (called : N) → P file called → Q file called) → OfSomeFiles IsLike names P → OfSomeFiles IsLike names Q
so-some IsLike names P Q follows some =
    record { file = some.file; called = some.called; like = some.like; so = follows some.file some.called some.so }

-- THE FILE of a call that reads a board alone
pub some-board : (name : List ℕ) (b : BoardView) → IsSpelled b → OfSomeFiles IsAnyName name (λ file called. IsAcceptedIn file called b)
some-board name b spelled =
    record { file = contents (spelled.text ∷ []); called = 0 ∷ []; like = tt; so = accepted-numbered b spelled [] }

-- THE FILES of a call of `verify`
pub some-journal : (names : VerifyNames) (b : BoardView) (scripts : List CallerView) (text : List ℕ) → IsSpelled b
    → All (λ s. IsInGrammar b s.script.text) scripts → length scripts ≡ length names.scripts
    → HasReadSomeJournal names b (texts_of scripts) text
some-journal names b scripts text spelled grammar count =
    record {
      file = contents all;
      called = record { board = 0 ∷ []; journal = 1 ∷ []; scripts = numbered 2 texts };
      like = many-numbered 2 scripts (length names.scripts) count;
      so = record {
        board_in = accepted-numbered b spelled (text ∷ texts);
        scripts = scripts-numbered all 2 b scripts grammar from;
        texts_are = sym (texts-numbered all 2 texts from);
        there = refl;
      };
    }
  where
    texts : List (List ℕ)
    texts = texts_of scripts

    all : List (List ℕ)
    all = spelled.text ∷ text ∷ texts

    from : AreFrom all 2 texts
    from c at is = ap (slice_get all) (let e : at ≡ suc (suc c) = omega (arith, is) in e)

-- THE FILES of a replay
pub some-read : (names : Names) (b : BoardView) (scripts : List CallerView) (callers : ℕ) (words : Option (List ℕ)) → IsSpelled b
    → All (λ s. IsInGrammar b s.script.text) scripts → length scripts ≡ length names.scripts → callers ≡ length names.scripts
    → AreOrdered names.schedule callers words → HasReadSome names b (texts_of scripts) words
some-read names b scripts callers words spelled grammar count known order =
    record {
      file = contents all;
      called = names_of (0 ∷ []) (schedule_called names.schedule) (numbered 2 texts);
      like = record { scripts = many; schedule = called-some names.schedule };
      so = record {
        board_in = accepted-numbered b spelled (schedule-text names.schedule callers words order ∷ texts);
        scripts = scripts-numbered all 2 b scripts grammar from;
        texts_are = sym (texts-numbered all 2 texts from);
        order_in = subst (λ (n : ℕ). IsOrderIn (contents all) (schedule_called names.schedule) n words) (known ∙ sym many)
            (order-numbered spelled.text texts names.schedule callers words order);
      };
    }
  where
    texts : List (List ℕ)
    texts = texts_of scripts

    all : List (List ℕ)
    all = spelled.text ∷ schedule-text names.schedule callers words order ∷ texts

    many : length (numbered 2 texts) ≡ length names.scripts
    many = many-numbered 2 scripts (length names.scripts) count

    from : AreFrom all 2 texts
    from c at is = ap (slice_get all) (let e : at ≡ suc (suc c) = omega (arith, is) in e)

-- a text that is in a word, or in file 1
extra-there : (file : Files) (text : List ℕ) → file (1 ∷ []) ≡ Some text → (word : Bool)
    → (if word then Some (if word then text else 1 ∷ []) else file (if word then text else 1 ∷ [])) ≡ Some text
extra-there file text there true = refl
extra-there file text there false = there

-- THE FILES of a call with one file or word more
pub some-extra : {V : Type 0} (x : ExtraRow V) (names : ExtraNames) (b : BoardView) (scripts : List CallerView) (v : V) (callers : ℕ)
    (words : List ℕ) → IsSpelled b
    → All (λ s. IsInGrammar b s.script.text) scripts → IsExtraSpelled x b v → length scripts ≡ length names.scripts
    → callers ≡ length names.scripts → AreScheduled callers words → HasReadSomeExtra x names b v (texts_of scripts) words
some-extra x names b scripts v callers words spelled grammar told count known order =
    record {
      file = contents all;
      called = record { board = 0 ∷ []; extra = if x.in_word then told.text else 1 ∷ []; schedule = 2 ∷ []; scripts = numbered 3 texts };
      like = many;
      so = record {
        board_in = accepted-numbered b spelled (told.text ∷ order.text ∷ texts);
        scripts = scripts-numbered all 3 b scripts grammar from;
        texts_are = sym (texts-numbered all 3 texts from);
        extra_in = record { has = record { text = told.text; there = extra-there (contents all) told.text refl x.in_word; value = v; spells = told.spells }; same = refl };
        words_in = record {
          has = record {
            text = order.text;
            words = words;
            there = refl;
            read = subst (λ (n : ℕ). schedule_read n order.text ≡ Ok words) (known ∙ sym many) order.read;
          };
          same = refl;
        };
      };
    }
  where
    texts : List (List ℕ)
    texts = texts_of scripts

    all : List (List ℕ)
    all = spelled.text ∷ told.text ∷ order.text ∷ texts

    many : length (numbered 3 texts) ≡ length names.scripts
    many = many-numbered 3 scripts (length names.scripts) count

    from : AreFrom all 3 texts
    from c at is = ap (slice_get all) (let e : at ≡ suc (suc (suc c)) = omega (arith, is) in e)
