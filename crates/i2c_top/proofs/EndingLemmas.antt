-- The ending of a call of any form: what is told of it (`HasEndedAs`) is read off how it came to its end. No induction, by the
-- class of the status; of a form it asks for the one law that every row keeps (`DecidesOnce`).
use Rattle.i2c_top.proofs.Cited.{◌≡◌, ℕ, ◌⊎◌, inl, inr, Bool, true, false, IsTrue, List, ◌++◌, Result, Ok, Err, refl, sym, ap, ◌∙◌, subst}
use Rattle.i2c_top.proofs.Cited.{append-nil, IfOk, IfErr, Rose, CameToSuccess, CameToRefusal, name_in, IsRefusalWritten}
use Rattle.i2c_top.proofs.Cited.{HasEndedAs, Form, DecidesOnce, TellsItsFiles, own_of, KeepsShelf, KeepsSkipped, Class, Done, Misused}
use Rattle.i2c_top.proofs.Cited.{Refused, Unread, NoRig, Silent, class_of, ShelfView, RigView, Outside, Status}
use Rattle.std.specs.Prelude.{⊤}
use Rattle.i2c_top.specs.Endings.{shown_of, CameTo, IsAnswer, IsCaused, due_of, IsTextDue, IsStarved, IsWritten, HasSaid, IsCutShort}
use Rattle.i2c_top.specs.Form.{IsStatusOf, told_of, unreached_of, rig_after, traced_of, IsCalm}
use Rattle.i2c_top.specs.Status.{refusal_text}
use Rattle.i2c_top.specs.Traces.{OutputView, IsRigLeft, IsRunOver, IsTried, IsUnread}
use Rattle.i2c_top.specs.declared.status.Status.TheVariants as status

-- the statuses of the classes that have one or two
abbrev IsNamed : Status → Class → Type 0
IsNamed s Done = s ≡ status.Ok
IsNamed s Misused = s ≡ status.Usage
IsNamed s Refused = ⊤
IsNamed s (Unread place) = s ≡ status.Read place
IsNamed s NoRig = s ≡ status.Rig
IsNamed s Silent = (s ≡ status.Write) ⊎ (s ≡ status.Memory)

named : (s : Status) → IsNamed s (class_of s)
named status.Ok = refl
named status.Usage = refl
named (status.Board why) = tt
named (status.Script caller line word) = tt
named (status.Cost cost) = tt
named (status.Read place) = refl
named status.Write = inl refl
named status.Memory = inr refl
named status.Rig = refl
named (status.Schedule word) = tt
named (status.Verify fault) = tt
named (status.Map fault) = tt
named (status.NoRoot bus) = tt
named (status.Faults word) = tt
named status.Input = tt

-- the line of a refusal is due for it, and nothing else
due_line : (form : Form) (shelf : ShelfView) (rig : RigView) (s : Status) (text : List ℕ) (c : Class) → IsNamed s c → (s ≡ status.Ok → ⊥)
    → due_of form shelf rig s text c → text ≡ refusal_text s (name_in shelf.words s)
due_line form shelf rig s text Done is n h = absurd (n is)
due_line form shelf rig s text Silent is n h = absurd h
due_line form shelf rig s text Misused is n h = h
due_line form shelf rig s text Refused is n h = h
due_line form shelf rig s text (Unread place) is n h = h
due_line form shelf rig s text NoRig is n h = h

silent_line : (s : Status) (P : Type 0) → (s ≡ status.Write → ⊥) → (s ≡ status.Memory → ⊥) → (s ≡ status.Write) ⊎ (s ≡ status.Memory) → P
silent_line s P write memory (inl w) = absurd (write w)
silent_line s P write memory (inr m) = absurd (memory m)

line_due : (form : Form) (shelf : ShelfView) (rig : RigView) (s : Status) (text : List ℕ) (c : Class) → IsNamed s c → (s ≡ status.Ok → ⊥)
    → (s ≡ status.Write → ⊥) → (s ≡ status.Memory → ⊥) → text ≡ refusal_text s (name_in shelf.words s) → due_of form shelf rig s text c
line_due form shelf rig s text Done is ok write memory h = absurd (ok is)
line_due form shelf rig s text Silent is ok write memory h = silent_line s ⊥ write memory is
line_due form shelf rig s text Misused is ok write memory h = h
line_due form shelf rig s text Refused is ok write memory h = h
line_due form shelf rig s text (Unread place) is ok write memory h = h
line_due form shelf rig s text NoRig is ok write memory h = h

abbrev Line : List (List ℕ) → OutputView → OutputView → Status → Type 0
Line words sink sink_now r = (r ≡ status.Ok → ⊥) → (r ≡ status.Write → ⊥) → sink_now.bytes ≡ sink.bytes ++ refusal_text r (name_in words r)

line_starved : (words : List (List ℕ)) (sink sink_now : OutputView) (result : Status) → IsTrue sink.tells → IsStarved sink sink_now result
    → Line words sink sink_now result
line_starved words sink sink_now result t m =
    subst (Line words sink sink_now) (sym m.starved) (λ ok cut. m.kept t ∙ sym (append-nil sink.bytes))

-- a call came to a status, and its text was due and written
record HasAnswered (form : Form) (old new : Outside) (result : Status) : Type 0 where
  to : Status
  text : List ℕ
  came : CameTo form old.shelf new.shelf old.rig new.rig to
  due : IsTextDue form old.shelf new.rig to text
  written : IsWritten old.sink new.sink to text result

-- or there was no memory for it
record HasStarved (form : Form) (old new : Outside) (result : Status) : Type 0 where
  to : Status
  came : CameTo form old.shelf new.shelf old.rig new.rig to
  starved : IsStarved old.sink new.sink result

abbrev IsEnding : Form → Outside → Outside → Status → Type 0
IsEnding form old new result = HasAnswered form old new result ⊎ HasStarved form old new result

-- the whole of how a call came to its end
record CameToEnd (form : Form) (old new : Outside) (result : Status) : Type 0 where
  own : IsStatusOf form result
  kept : KeepsShelf form old.shelf new.shelf
  ending : IsEnding form old new result

-- whatever was done to the rig, it was plugged and unplugged at most once and is not left plugged
left_after : (plugs : Bool) (rig rig_now : RigView) → rig_after plugs rig rig_now → IsRigLeft rig rig_now
left_after true rig rig_now used = inr (record { plugs = used.plugs; unplugs = inr used.unplugs; unplugged = used.unplugged })
left_after false rig rig_now untouched = inl untouched

left_of : (form : Form) (rig rig_now : RigView) (c : Class) → traced_of form rig rig_now c → IsRigLeft rig rig_now
left_of form rig rig_now Done after = left_after form.plugs rig rig_now after
left_of form rig rig_now NoRig tried = inr (record { plugs = tried.plugs; unplugs = inl tried.unplugs; unplugged = tried.unplugged })
left_of form rig rig_now Silent left = left
left_of form rig rig_now Misused never = absurd never
left_of form rig rig_now Refused untouched = inl untouched
left_of form rig rig_now (Unread place) untouched = inl untouched

module _ (form : Form) (decides : DecidesOnce form) (old new : Outside) where
  abbrev Came : Status → Type 0
  Came s = CameTo form old.shelf new.shelf old.rig new.rig s

  -- what holds of each status that a call comes to, and of Write and Memory in its place, holds of its result
  by_ending : (result : Status) (P : Status → Type 0) → ((s : Status) → Came s → P s)
      → ((s : Status) → Came s → Rose old.sink.faults new.sink.faults → P status.Write) → ((s : Status) → Came s → P status.Memory)
      → IsEnding form old new result → P result
  by_ending result P as_told as_write as_memory (inl a) =
      elim a.written [
        | inl w ↦ subst P (sym w.same) (as_told a.to a.came)
        | inr w ↦ subst P (sym w.failed) (as_write a.to a.came w.rose)
      ]
  by_ending result P as_told as_write as_memory (inr m) = subst P (sym m.starved.starved) (as_memory m.to m.came)

  -- where no count rose, the call came to what the files are a cause of, or there was no memory
  came_calmly : (s r : Status) → form.cause old.shelf.file s → IsCalm form old new → (r ≡ status.Write → ⊥) → (c : Class) → IsNamed r c
      → told_of form old.shelf.file r c → shown_of form old.shelf new.shelf old.rig new.rig c → (r ≡ s) ⊎ (r ≡ status.Memory)
  came_calmly s r cause calm write Done is told shown = inl (decides old.shelf.file s r cause told)
  came_calmly s r cause calm write Refused is told shown = inl (decides old.shelf.file s r cause told)
  came_calmly s r cause calm write Misused is told shown = absurd shown
  came_calmly s r cause calm write (Unread place) is told shown = absurd (calm.shelf place shown.named shown.rose)
  came_calmly s r cause calm write NoRig is told shown = absurd (calm.rig told.0 shown)
  came_calmly s r cause calm write Silent is told shown =
      elim is [
        | inl w ↦ absurd (write w)
        | inr m ↦ inr m
      ]

  ended_complete : (result : Status) → CameToEnd form old new result → TellsItsFiles form old.shelf → (s : Status)
      → form.cause old.shelf.file s
      → IsCalm form old new → (result ≡ s) ⊎ (result ≡ status.Memory)
  ended_complete result h t s cause calm =
      by_ending result (λ r. (r ≡ s) ⊎ (r ≡ status.Memory))
      (λ r c. came_calmly s r cause calm c.unwritten (class_of r) (named r) (c.told t) c.shown)
      (λ r c rose. absurd (calm.sink rose)) (λ r c. inr refl) h.ending

  said : (result : Status) → IsEnding form old new result → result ≡ status.Ok → HasSaid form old new
  said result (inl a) ok =
      elim a.written [
        | inl w ↦ record {
          text = a.text;
          answer = subst (λ s. IsTextDue form old.shelf new.rig s a.text) (sym w.same ∙ ok) a.due;
          written = w.whole;
        }
        | inr w ↦ absurd (let h : status.Write ≡ status.Ok = sym w.failed ∙ ok in cc)
      ]
  said result (inr m) ok = absurd (let h : status.Memory ≡ status.Ok = sym m.starved.starved ∙ ok in cc)

  line_of : (result : Status) → IsEnding form old new result → IsTrue old.sink.tells → Line old.shelf.words old.sink new.sink result
  line_of result (inl a) t =
      elim a.written [
        | inl w ↦ subst (Line old.shelf.words old.sink new.sink) (sym w.same) (λ ok cut. w.whole t
            ∙ ap (λ x. old.sink.bytes ++ x) (due_line form old.shelf new.rig a.to a.text (class_of a.to) (named a.to) ok a.due))
        | inr w ↦ λ ok cut. absurd (cut w.failed)
      ]
  line_of result (inr m) t = line_starved old.shelf.words old.sink new.sink result t m.starved

  kept_of : (result : Status) → IsEnding form old new result → IsTrue old.sink.tells → result ≡ status.Memory
      → new.sink.bytes ≡ old.sink.bytes
  kept_of result (inl a) t e =
      elim a.written [
        | inl w ↦ absurd (subst (λ s. IsTextDue form old.shelf new.rig s a.text) (sym w.same ∙ e) a.due)
        | inr w ↦ absurd (let k : status.Write ≡ status.Memory = sym w.failed ∙ e in cc)
      ]
  kept_of result (inr m) t e = m.starved.kept t

  left_with : (s : Status) → Came s → IsRigLeft old.rig new.rig
  left_with s c = left_of form old.rig new.rig (class_of s) c.traced

  -- the cause of what it came to is that of its result, but where the output failed or there was no memory
  ended_cause : (result : Status) → CameToEnd form old new result → IsCaused form old new result
  ended_cause result h =
      by_ending result (λ s. IsStatusOf form s → IsCaused form old new s)
      (λ s c own. record {
        own = own;
        told = c.told;
        shown = c.shown;
        write = λ e. absurd (c.unwritten e);
        unreached = c.unreached;
        traced = c.traced;
      })
      (λ s c rose own. record { own = own; told = λ t. tt; shown = tt; write = λ e. rose; unreached = tt; traced = left_with s c })
      (λ s c own. record {
        own = own;
        told = λ t. tt;
        shown = tt;
        write = λ e. absurd (let k : status.Memory ≡ status.Write = e in cc);
        unreached = tt;
        traced = left_with s c;
      })
      h.ending h.own

  cut_of : (result : Status) → IsEnding form old new result → result ≡ status.Write → IsCutShort form old new
  cut_of result (inl a) e =
      elim a.written [
        | inl w ↦ absurd (subst (λ s. IsTextDue form old.shelf new.rig s a.text) (sym w.same ∙ e) a.due)
        | inr w ↦ record { to = a.to; text = a.text; came = a.came; due = a.due; front = w.front }
      ]
  cut_of result (inr m) e = absurd (let k : status.Memory ≡ status.Write = sym m.starved.starved ∙ e in cc)

  -- what is told of the end of a call
  ended_told : (result : Status) → CameToEnd form old new result → HasEndedAs form old new result
  ended_told result h =
      record {
        cause = ended_cause result h;
        complete = ended_complete result h;
        said = said result h.ending;
        written = record { line = line_of result h.ending; kept = kept_of result h.ending; cut = cut_of result h.ending };
        kept = h.kept;
      }

  -- what is answered after writing is a status of the form
  own_written : (s : Status) (text : List ℕ) (result : Status) → IsStatusOf form s → IsWritten old.sink new.sink s text result
      → IsStatusOf form result
  own_written s text result own (inl w) = subst (IsStatusOf form) (sym w.same) own
  own_written s text result own (inr w) = subst (IsStatusOf form) (sym w.failed) tt

  -- a success that was written is how the call ended
  ended_done : (text : List ℕ) (result : Status) → CameToSuccess form old.shelf new.shelf old.rig new.rig text
      → IsWritten old.sink new.sink status.Ok text result → CameToEnd form old new result
  ended_done text result done written =
      record {
        own = own_written status.Ok text result tt written;
        kept = done.kept;
        ending = inl (record { to = status.Ok; text = text; came = done.came; due = done.answer; written = written });
      }

  -- and so is a refusal whose line was written, or for which there was no memory
  ended_refused : (s : Status) (result : Status) → CameToRefusal form old.shelf new.shelf old.rig new.rig s
      → IsRefusalWritten old.sink new.sink s (name_in old.shelf.words s) result → CameToEnd form old new result
  ended_refused s result is (inl m) =
      record {
        own = subst (IsStatusOf form) (sym m.starved) tt;
        kept = is.kept;
        ending = inr (record { to = s; came = is.came; starved = m });
      }
  ended_refused s result is (inr w) =
      let line = refusal_text s (name_in old.shelf.words s) in
      record {
        own = own_written s line result is.own w.1;
        kept = is.kept;
        ending = inl (record {
          to = s;
          text = line;
          came = is.came;
          due = line_due form old.shelf new.rig s line (class_of s) (named s) is.refusal is.came.unwritten w.0 refl;
          written = w.1;
        });
      }

  -- what came of a form was told, under the words of its call
  pub ended_by : (words : List (List ℕ)) (r : Result (List ℕ) Status) (result : Status) → old.shelf.words ≡ words
      → IfOk r (λ text. CameToSuccess form old.shelf new.shelf old.rig new.rig text)
      → IfErr r (CameToRefusal form old.shelf new.shelf old.rig new.rig)
      → IfOk r (λ text. IsWritten old.sink new.sink status.Ok text result)
      → IfErr r (λ e. IsRefusalWritten old.sink new.sink e (name_in words e) result) → HasEndedAs form old new result
  ended_by words (Ok text) result same done refused written unwritten =
      ended_told result (ended_done text result done written)
  ended_by words (Err e) result same done refused written unwritten =
      ended_told result (ended_refused e result refused
      (subst (λ ws. IsRefusalWritten old.sink new.sink e (name_in ws e) result) (sym same) unwritten))

-- and of a form by its names, which are those that its words have
pub ended_as : {N : Type 0} (row : N → Form) {names names_now : N} {old new : Outside} {words : List (List ℕ)} {result : Status}
    (r : Result (List ℕ) Status) → names ≡ names_now → DecidesOnce (row names) → old.shelf.words ≡ words
    → IfOk r (λ text. CameToSuccess (row names) old.shelf new.shelf old.rig new.rig text)
    → IfErr r (CameToRefusal (row names) old.shelf new.shelf old.rig new.rig)
    → IfOk r (λ text. IsWritten old.sink new.sink status.Ok text result)
    → IfErr r (λ e. IsRefusalWritten old.sink new.sink e (name_in words e) result) → HasEndedAs (row names_now) old new result
ended_as row {names} {names_now} {old} {new} {words} {result} r same decides at done refused written unwritten =
    subst (λ n. HasEndedAs (row n) old new result) same
    (ended_by (row names) decides old new words r result at done refused written unwritten)

-- how a call comes to a status, class by class
module _ (form : Form) (shelf shelf_now : ShelfView) (rig rig_now : RigView) where
  -- the files let it succeed, and what is to be done to the rig was done
  pub came_to_success : (text : List ℕ) → (TellsItsFiles form shelf → form.cause shelf.file status.Ok) → rig_after form.plugs rig rig_now
      → IsAnswer form shelf rig_now text → KeepsShelf form shelf shelf_now
      → CameToSuccess form shelf shelf_now rig rig_now text
  came_to_success text cause after answer kept =
      record {
        came = record {
          told = cause;
          shown = tt;
          unwritten = λ e. let k : status.Ok ≡ status.Write = e in cc;
          unreached = tt;
          traced = after;
        };
        answer = answer;
        kept = kept;
      }

  -- the rig was not plugged
  pub rig_failed : IsTrue form.plugs → (TellsItsFiles form shelf → form.cause shelf.file status.Ok) → Rose rig.faults rig_now.faults
      → IsTried rig rig_now
      → KeepsShelf form shelf shelf_now → CameToRefusal form shelf shelf_now rig rig_now status.Rig
  rig_failed plugs cause rose tried kept =
      record {
        came = record {
          told = λ t. (plugs, cause t);
          shown = rose;
          unwritten = λ e. let k : status.Rig ≡ status.Write = e in cc;
          unreached = tt;
          traced = tried;
        };
        refusal = λ e. let k : status.Rig ≡ status.Ok = e in cc;
        own = plugs;
        kept = kept;
      }

  -- there was no memory
  pub memory_wanting : IsRigLeft rig rig_now → KeepsShelf form shelf shelf_now
      → CameToRefusal form shelf shelf_now rig rig_now status.Memory
  memory_wanting left kept =
      record {
        came = record {
          told = λ t. tt;
          shown = tt;
          unwritten = λ e. let k : status.Memory ≡ status.Write = e in cc;
          unreached = tt;
          traced = left;
        };
        refusal = λ e. let k : status.Memory ≡ status.Ok = e in cc;
        own = tt;
        kept = kept;
      }

  -- a run over the rig that failed is a refusal
  pub run_refused : {X : Type 0} (r : Result X Status) → IsTrue form.plugs → (TellsItsFiles form shelf → form.cause shelf.file status.Ok)
      → KeepsShelf form shelf shelf_now → IsRunOver rig rig_now r → IfErr r (CameToRefusal form shelf shelf_now rig rig_now)
  run_refused (Ok x) plugging cause kept over = tt
  run_refused (Err e) plugging cause kept over =
      elim over.failed [
        | inl h ↦ subst (CameToRefusal form shelf shelf_now rig rig_now) (sym h)
            (rig_failed plugging cause (over.rig (ap (λ x. Err x) h))
            (record { plugs = over.plugs; unplugs = over.none (ap (λ x. Err x) h); unplugged = over.unplugged }) kept)
        | inr h ↦ subst (CameToRefusal form shelf shelf_now rig rig_now) (sym h)
            (memory_wanting (inr (record { plugs = over.plugs; unplugs = over.once; unplugged = over.unplugged })) kept)
      ]

-- .. before the rig is plugged
module _ (form : Form) (shelf shelf_now : ShelfView) (rig : RigView) where
  -- a file was not read
  pub file_unread : (place : ℕ) → (TellsItsFiles form shelf → form.turn shelf.file place)
      → IsUnread form.reads shelf.faults shelf_now.faults place
      → KeepsSkipped form shelf.faults shelf_now.faults (status.Read place) → KeepsShelf form shelf shelf_now
      → CameToRefusal form shelf shelf_now rig rig (status.Read place)
  file_unread place turn unread skipped kept =
      record {
        came = record {
          told = turn;
          shown = unread;
          unwritten = λ e. let k : status.Read place ≡ status.Write = e in cc;
          unreached = skipped;
          traced = record { plugs = refl; unplugs = refl };
        };
        refusal = λ e. let k : status.Read place ≡ status.Ok = e in cc;
        own = unread.named;
        kept = kept;
      }

  -- a text was refused
  pub text_refused : (s : Status) → class_of s ≡ Refused → (TellsItsFiles form shelf → form.cause shelf.file s) → form.refuses s
      → KeepsSkipped form shelf.faults shelf_now.faults s → KeepsShelf form shelf shelf_now → CameToRefusal form shelf shelf_now rig rig s
  text_refused s is cause own skipped kept =
      record {
        came = record {
          told = λ t. subst (told_of form shelf.file s) (sym is) (cause t);
          shown = subst (shown_of form shelf shelf_now rig rig) (sym is) tt;
          unwritten = λ e. let k : Silent ≡ Refused = sym (ap class_of e) ∙ is in cc;
          unreached = subst (unreached_of form shelf.faults shelf_now.faults s) (sym is) skipped;
          traced = subst (traced_of form rig rig) (sym is) (record { plugs = refl; unplugs = refl });
        };
        refusal = λ e. let k : Done ≡ Refused = sym (ap class_of e) ∙ is in cc;
        own = subst (own_of form s) (sym is) own;
        kept = kept;
      }

-- what holds of an outcome beside each rig, or beside each shelf
pub for_ok : {A X E : Type 0} (r : Result X E) (P : A → X → Type 0) → IfOk r (λ x. (a : A) → P a x) → (a : A) → IfOk r (P a)
for_ok (Ok x) P h a = h a
for_ok (Err e) P h a = tt

pub for_err : {A X E : Type 0} (r : Result X E) (P : A → E → Type 0) → IfErr r (λ e. (a : A) → P a e) → (a : A) → IfErr r (P a)
for_err (Ok x) P h a = tt
for_err (Err e) P h a = h a

pub each_ok : {A X E : Type 0} (r : Result X E) (P : A → X → Type 0) → ((a : A) → IfOk r (P a)) → IfOk r (λ x. (a : A) → P a x)
each_ok (Ok x) P h = h
each_ok (Err e) P h = tt

pub each_err : {A X E : Type 0} (r : Result X E) (P : A → E → Type 0) → ((a : A) → IfErr r (P a)) → IfErr r (λ e. (a : A) → P a e)
each_err (Ok x) P h = tt
each_err (Err e) P h = h
