-- What a step decides is what the flat world answers: a select that isn't good tells the first mux over the bus that
-- lets nothing through, and where the caller's messages are sent all let them through. The inductions go over hops.
use Rattle.bus_laws.proofs.Cited.{subst, ◌≡◌, ℕ, zero, suc, Bool, true, false, cond, List, [], ◌∷◌, ◌++◌, Option, Some, None, eqb, refl}
use Rattle.bus_laws.proofs.Cited.{sym, ◌∙◌, ap, inl, inr, append-nil, eq-eqb, reverse-append, append_assoc, End, Errno, Cut, BoardView}
use Rattle.bus_laws.proofs.Cited.{TransferView, Hop, hops, is_absent, is_held, IsAmongHops, home_of_mux, IsTree, TargetState, refusal}
use Rattle.bus_laws.proofs.Cited.{World, Job, Call, Select, SwitchOff, Off, off_mux, Sent, Lined, is_line, On, Last, Over, first_byte, goes}
use Rattle.bus_laws.proofs.Cited.{job_outcome, verdict_of, decides, Slots, message_cut, CanGoThrough, CanSelect, IsOpenOn, WorldTold}
use Rattle.bus_laws.proofs.Cited.{EndsJob}
use Rattle.std.proofs.Common.{reverse}
use Rattle.i2c_base.specs.declared.entry.End.TheVariants as end
use Rattle.i2c_base.specs.declared.entry.Purpose.TheVariants as purpose
use Rattle.i2c_base.specs.declared.errno.Errno.TheVariants as errno
use Rattle.i2c_base.specs.declared.reply.Reply.TheVariants as reply
use Rattle.i2c_base.specs.declared.reply.Cut.TheVariants as cut_at
use Rattle.i2c_base.specs.declared.tree.Way.{Way}
use Rattle.i2c_base.specs.declared.tree.Way.TheVariants as way
use Rattle.i2c_spec.specs.Grant.{way_through, way_of}
use Rattle.i2c_spec.specs.Flat.{is_way_cut, way_errno, first_of, barred, flat_by, flat}
use Rattle.bus_spec.specs.Walk.{on_if_more}

-- A PATH
-- the hops of a path after one of them are those over its bus
hops_split : (b : BoardView) → IsTree b → (hs : List Hop) (s : ℕ) → hops b s ≡ hs → (h : Hop) → IsAmongHops h hs
    → (front : List Hop) × (hops b s ≡ front ++ h ∷ hops b h.on)
hops_split b tree [] s at h among = absurd among
hops_split b tree (g ∷ gs) s at h among =
    elim among [
      | inl e ↦ ([], at ∙ ap (λ (xs : List Hop). g ∷ xs) (sym (tree.tail s g gs at)) ∙ ap (λ (i : Hop). i ∷ hops b i.on) (sym e))
      | inr more ↦ (let r = hops_split b tree gs g.on (tree.tail s g gs at) h more in
          (g ∷ r.0, at ∙ ap (λ (xs : List Hop). g ∷ xs) (sym (tree.tail s g gs at)) ∙ ap (λ (xs : List Hop). g ∷ xs) r.1))
    ]

-- THE WAY
-- these muxes let a message through
abbrev pub LetThrough : BoardView → List Hop → Type 0
LetThrough b hs = (g : Hop) → IsAmongHops g hs → (is_absent b g.mux ≡ false) × (is_held b g.mux ≡ false)

way_passed : (b : BoardView) (h : Hop) (hs : List Hop) → is_absent b h.mux ≡ false → is_held b h.mux ≡ false
    → way_through b (h ∷ hs) ≡ way_through b hs
way_passed b h hs here free =
    ap (λ (t : Bool). cond t (way.NoAck h.mux) (cond (is_held b h.mux) (way.Held h.mux) (way_through b hs))) here
    ∙ ap (λ (t : Bool). cond t (way.Held h.mux) (way_through b hs)) free

reverse_cons : (h : Hop) (hs : List Hop) → reverse (h ∷ hs) ≡ reverse hs ++ h ∷ []
reverse_cons h hs = reverse-append (h ∷ []) hs

-- looked at from the root, those that let it through don't matter
way_back : (b : BoardView) (hs ys : List Hop) → LetThrough b hs → way_through b (reverse hs ++ ys) ≡ way_through b ys
way_back b [] ys passes = refl
way_back b (h ∷ hs) ys passes =
    ap (λ (xs : List Hop). way_through b (xs ++ ys)) (reverse_cons h hs)
    ∙ ap (λ (xs : List Hop). way_through b xs) (append_assoc (reverse hs) (h ∷ []) ys)
    ∙ way_back b hs (h ∷ ys) (λ g a. passes g (inr a))
    ∙ way_passed b h ys (passes h (inl refl)).0 (passes h (inl refl)).1

way_behind : (b : BoardView) (front : List Hop) (h : Hop) (back : List Hop) → LetThrough b back
    → way_through b (reverse (front ++ h ∷ back)) ≡ way_through b (h ∷ reverse front)
way_behind b front h back passes =
    ap (λ (xs : List Hop). way_through b xs) (reverse-append front (h ∷ back)
    ∙ ap (λ (xs : List Hop). xs ++ reverse front) (reverse_cons h back)
    ∙ append_assoc (reverse back) (h ∷ []) (reverse front))
    ∙ way_back b back (h ∷ reverse front) passes

pub way-clear : (b : BoardView) (s : ℕ) → LetThrough b (hops b s) → way_of b s ≡ way.Clear
way-clear b s passes =
    ap (λ (xs : List Hop). way_through b xs) (sym (append-nil (reverse (hops b s)))) ∙ way_back b (hops b s) [] passes

module _ (b : BoardView) (tree : IsTree b) (s : ℕ) (h : Hop) (among : IsAmongHops h (hops b s)) (passes : LetThrough b (hops b h.on)) where
  way_here : (front : List Hop) × (way_of b s ≡ way_through b (h ∷ reverse front))
  way_here =
      let r = hops_split b tree (hops b s) s refl h among in
      (r.0, ap (λ (xs : List Hop). way_through b (reverse xs)) r.1 ∙ way_behind b r.0 h (hops b h.on) passes)

  way_absent : is_absent b h.mux ≡ true → way_of b s ≡ way.NoAck h.mux
  way_absent gone =
      way_here.1 ∙ ap (λ (t : Bool). cond t (way.NoAck h.mux)
      (cond (is_held b h.mux) (way.Held h.mux) (way_through b (reverse way_here.0)))) gone

  way_held : is_absent b h.mux ≡ false → is_held b h.mux ≡ true → way_of b s ≡ way.Held h.mux
  way_held here held =
      way_here.1 ∙ ap (λ (t : Bool). cond t (way.NoAck h.mux)
      (cond (is_held b h.mux) (way.Held h.mux) (way_through b (reverse way_here.0)))) here
      ∙ ap (λ (t : Bool). cond t (way.Held h.mux) (way_through b (reverse way_here.0))) held

-- where the path is open, all muxes over it let a message through
pub open-through : (b : BoardView) → IsTree b → (v : Slots) (ws : ℕ → World) → WorldTold b v ws → (s : ℕ)
    → ((g : Hop) → IsAmongHops g (hops b s) → IsOpenOn b g (v g.on)) → LetThrough b (hops b s)
open-through b tree v ws world s reached g a =
    let home : home_of_mux b g.mux ≡ g.on = (tree.hop s g a).home in
    let o = world.told.opened g.mux g.channel (subst (λ (i : ℕ). (v i).kept g.mux ≡ Some g.channel) (sym home) (reached g a).kept) in
    (o.3, o.4)

-- THE VERDICT
-- a step settles with this error, which is what bars the transfer in the flat world
pub record Bars (b : BoardView) (t : TransferView) (cut : Cut) (decided : Option Errno) : Type 0 where
  pub error : Errno
  pub verdict : decided ≡ Some error
  pub barred : barred b t cut ≡ Some error

abbrev bar_of : Bool → Option Errno → Option Errno
bar_of cut_off by_way = first_of None (first_of (cond cut_off (Some errno.Eremoteio) None) by_way)

barred_by : (b : BoardView) (t : TransferView) (cut : Cut) (cut_off : Bool) (w : Way) → refusal b t ≡ None → is_way_cut cut ≡ cut_off
    → way_of b t.bus ≡ w
    → barred b t cut ≡ bar_of cut_off (way_errno w)
barred_by b t cut cut_off w accepted off at =
    ap (λ (o : Option Errno). first_of o (first_of (cond (is_way_cut cut) (Some errno.Eremoteio) None) (way_errno (way_of b t.bus))))
    accepted
    ∙ ap (λ (x : Bool). bar_of x (way_errno (way_of b t.bus))) off
    ∙ ap (λ (x : Way). bar_of cut_off (way_errno x)) at

-- a port call failed on the way
pub failed-bars : (b : BoardView) (t : TransferView) → refusal b t ≡ None → Bars b t cut_at.Way (Some errno.Eremoteio)
failed-bars b t accepted = record {
  error = errno.Eremoteio;
  verdict = refl;
  barred = barred_by b t cut_at.Way true (way_of b t.bus) accepted refl refl;
}

module _ (b : BoardView) (tree : IsTree b) (t : TransferView) (accepted : refusal b t ≡ None) (h : Hop)
    (among : IsAmongHops h (hops b t.bus)) (passes : LetThrough b (hops b h.on)) where
  absent_bars : is_absent b h.mux ≡ true → Bars b t cut_at.No (Some errno.Enxio)
  absent_bars gone =
      record {
        error = errno.Enxio;
        verdict = refl;
        barred = barred_by b t cut_at.No false (way.NoAck h.mux) accepted refl (way_absent b tree t.bus h among passes gone);
      }

  held_bars : is_absent b h.mux ≡ false → is_held b h.mux ≡ true → Bars b t cut_at.No (Some errno.Etimedout)
  held_bars here held =
      record {
        error = errno.Etimedout;
        verdict = refl;
        barred = barred_by b t cut_at.No false (way.Held h.mux) accepted refl (way_held b tree t.bus h among passes here held);
      }

  last_poll : (bytes : List ℕ) → CanGoThrough b h (suc zero) bytes → goes (Select h) zero (Sent end.Ok bytes) ≡ Over
      → Bars b t cut_at.No (Some errno.Etimedout)
  last_poll bytes can over =
      elim can [
        | inl free ↦ absurd (let f : Last ≡ Over = sym (ap (λ (x : Bool). cond x Last Over) (eq-eqb (first_byte bytes) 0 free)) ∙ over in
            cc)
        | inr held ↦ held_bars held.0 held.1
      ]

  no_poll : (left : ℕ) (x : Bool) → cond x Last (on_if_more (suc left)) ≡ Over → ⊥
  no_poll left true e = (let f : Last ≡ Over = e in cc)
  no_poll left false e = (let f : On ≡ Over = e in cc)

  -- a select by message
  pub select-bars : (left : ℕ) (e : End) (bytes : List ℕ) → CanSelect b h left e bytes
      → decides (Select h) (job_outcome (Select h) left (Sent e bytes)) ≡ true
      → EndsJob (Select h) left (Sent e bytes)
      → Bars b t (message_cut (purpose.Control h.mux) 1 e) (verdict_of (Select h) left (Sent e bytes))
  select-bars zero end.Ok bytes can decided ends = absurd (let f : false ≡ true = decided in cc)
  select-bars (suc zero) end.Ok bytes can decided ends = last_poll bytes can ends
  select-bars (suc (suc left)) end.Ok bytes can decided ends = absurd (no_poll left (eqb (first_byte bytes) 0) ends)
  select-bars left end.Nack bytes can decided ends = absent_bars can
  select-bars left end.Slow bytes can decided ends = absurd can
  select-bars left end.Refused bytes can decided ends = absurd can
  select-bars left end.Proto bytes can decided ends = absurd can
  select-bars left (end.Cut q) bytes can decided ends = failed-bars b t accepted

-- a deselect or a close decides only where it failed by the port
pub off-bars : (b : BoardView) (t : TransferView) → refusal b t ≡ None → (off : Off) (left : ℕ) (e : End) (bytes : List ℕ)
    → decides (SwitchOff off) (job_outcome (SwitchOff off) left (Sent e bytes)) ≡ true
    → Bars b t (message_cut (purpose.Control (off_mux off)) 1 e) (verdict_of (SwitchOff off) left (Sent e bytes))
off-bars b t accepted off left end.Ok bytes decided = absurd (let f : false ≡ true = decided in cc)
off-bars b t accepted off left end.Nack bytes decided = absurd (let f : false ≡ true = decided in cc)
off-bars b t accepted off left end.Slow bytes decided = absurd (let f : false ≡ true = decided in cc)
off-bars b t accepted off left end.Refused bytes decided = absurd (let f : false ≡ true = decided in cc)
off-bars b t accepted off left end.Proto bytes decided = absurd (let f : false ≡ true = decided in cc)
off-bars b t accepted off left (end.Cut q) bytes decided = failed-bars b t accepted

-- so does a line step
pub line-bars : (b : BoardView) (t : TransferView) → refusal b t ≡ None → (job : Job) (failed : Bool) → is_line job ≡ true
    → decides job (job_outcome job zero (Lined failed)) ≡ true
    → Bars b t (cond failed cut_at.Way cut_at.No) (verdict_of job zero (Lined failed))
line-bars b t accepted (Call bus ms) failed line decided = absurd (let f : false ≡ true = line in cc)
line-bars b t accepted (Select h) true line decided = failed-bars b t accepted
line-bars b t accepted (Select h) false line decided = absurd (let f : false ≡ true = decided in cc)
line-bars b t accepted (SwitchOff off) true line decided = failed-bars b t accepted
line-bars b t accepted (SwitchOff off) false line decided = absurd (let f : false ≡ true = decided in cc)

-- the caller's messages are sent where nothing bars them
pub call-clear : (b : BoardView) (t : TransferView) → refusal b t ≡ None → LetThrough b (hops b t.bus) → (part : ℕ) (e : End)
    → barred b t (message_cut purpose.Call part e) ≡ None
call-clear b t accepted passes part e = barred_by b t (message_cut purpose.Call part e) false way.Clear accepted (no_way e)
    (way-clear b t.bus passes)
  where
    no_way : (x : End) → is_way_cut (message_cut purpose.Call part x) ≡ false
    no_way end.Ok = refl
    no_way end.Nack = refl
    no_way end.Slow = refl
    no_way end.Refused = refl
    no_way end.Proto = refl
    no_way (end.Cut q) = refl

-- a refused transfer
pub refused-barred : (b : BoardView) (t : TransferView) (cut : Cut) (e : Errno) → refusal b t ≡ Some e → barred b t cut ≡ Some e
refused-barred b t cut e refused =
    ap (λ (o : Option Errno). first_of o (first_of (cond (is_way_cut cut) (Some errno.Eremoteio) None) (way_errno (way_of b t.bus))))
    refused

-- then the flat world answers that error, and leaves its devices
pub bars-flat : (b : BoardView) (xs : List TargetState) (t : TransferView) (cut : Cut) (e : Errno) → barred b t cut ≡ Some e
    → flat b xs t cut ≡ record { reply = reply.Err e; states = xs }
bars-flat b xs t cut e at = ap (λ (o : Option Errno). flat_by b xs t cut o) at
