-- The full order: the transfers of a journal with the hits between them give the journal's replies with the hits filled in, and the
-- devices that it leaves but for pointers. The inductions go over replies, hits, entries and callers.
use Rattle.std.proofs.Common.{◌≡◌, ℕ, zero, suc, ◌<◌, ◌≤◌, Bool, true, false, cond, ◌||◌, List, [], ◌∷◌, ◌++◌, map, Option, Some, None, eqb}
use Rattle.std.proofs.Common.{refl, sym, ◌∙◌, ap, subst, arith}
use Rattle.std.proofs.lemmas.Bool.{eqb-true, eq-eqb}
use Rattle.std.proofs.lemmas.List.{append_assoc, append-nil}
use Rattle.std.proofs.lemmas.List.Sums.{fold-append}
use Rattle.std.specs.Prelude.{slice_get, unwrap_or}
use Rattle.std.specs.List.{AllByRecursion, list_any, fold}
use Rattle.std.specs.Option.{option_map, option_map_or, option_and_then}
use Rattle.i2c_base.specs.declared.entry.Entry.{Entry}
use Rattle.i2c_base.specs.declared.entry.Entry.TheVariants as entry
use Rattle.i2c_base.specs.declared.reply.Reply.{Reply}
use Rattle.i2c_base.specs.declared.reply.Reply.TheVariants as reply
use Rattle.i2c_base.specs.declared.reply.Cut.{Cut}
use Rattle.i2c_base.specs.declared.reply.Cut.TheVariants as cut_at
use Rattle.i2c_base.specs.Board.{BoardView, DeviceView}
use Rattle.i2c_base.specs.Transfer.{TransferView}
use Rattle.i2c_spec.specs.TreeFacts.{IsTree}
use Rattle.i2c_spec.specs.Targets.Lm75Device.{Lm75View, lm75_opening}
use Rattle.i2c_spec.specs.Targets.{TargetState, Lm75, opening_state, row_of_kind}
use Rattle.i2c_spec.specs.Flat.{flat}
use Rattle.i2c_spec.specs.History.{History, opening_history, changed_at, with_told, one_more, history}
use Rattle.bus_spec.specs.Readings.{replies, order}
use Rattle.cache_laws.specs.Cache.{Access, Kept, Cached, Filled, Asking, access_of, is_at, with_register, brought, learn_at, learned_by}
use Rattle.cache_laws.specs.Cache.{learned, known_from, known, hit, hits_from, with_hits, all_of, more_filled, filled, answered, asks_of}
use Rattle.cache_laws.specs.Cache.{cached_asks, unknown}
use Rattle.cache_laws.specs.Order.{hits_of, order_before, last_hits, full_order, register_read, IsHarmless, MayBeCached, SameSensor}
use Rattle.cache_laws.specs.Order.{SameButPointers, IsReplayed}
use Rattle.cache_laws.proofs.One.{bytes_of, word_of}
use Rattle.cache_laws.proofs.Transfer.{StepsAlike, HitAlike, hit-alike}
use Rattle.cache_laws.proofs.Known.{Knows, IsRead, knows-own, knows-other, steps-alike, hit-is, hit-knows}

-- ---- what is known, reply by reply
known_more : (asks : Asking) (ks : List Kept) (past rs : List Reply) (r : Reply)
    → known_from asks ks past (rs ++ r ∷ []) ≡ learned (known_from asks ks past rs) (asks (past ++ rs)) r
known_more asks ks past [] r = ap (λ (xs : List Reply). learned ks (asks xs) r) (sym (append-nil past))
known_more asks ks past (x ∷ rs) r =
    known_more asks (learned ks (asks past) x) (past ++ x ∷ []) rs r
    ∙ ap (λ (xs : List Reply). learned (known_from asks (learned ks (asks past) x) (past ++ x ∷ []) rs) (asks xs) r)
    (append_assoc past (x ∷ []) rs)

pub known-more : (asks : Asking) (ks : List Kept) (rs : List Reply) (r : Reply)
    → known asks ks (rs ++ r ∷ []) ≡ learned (known asks ks rs) (asks rs) r
known-more asks ks rs r = known_more asks ks [] rs r

-- the devices that are kept stay the same
device_put : (k : Kept) (n : ℕ) (o : Option _) → (with_register k n o).device ≡ k.device
device_put k n o = by (eqb n 2)
  where
    by : (z : Bool) → (cond z (record k { hysteresis = o }) (record k { limit = o })).device ≡ k.device
    by true = refl
    by false = refl

device_learned : (a : Access) (r : Reply) (k : Kept) → (learn_at a r k).device ≡ k.device
device_learned a r k = by (is_at a k)
  where
    by : (z : Bool) → (cond z (with_register k a.register (brought a.sent r)) k).device ≡ k.device
    by true = device_put k a.register (brought a.sent r)
    by false = refl

devices_learned : (d : ℕ) (o : Option Access) (r : Reply) (ks : List Kept)
    → list_any (λ (k : Kept). eqb k.device d) (learned_by o r ks) ≡ list_any (λ (k : Kept). eqb k.device d) ks
devices_learned d None r ks = refl
devices_learned d (Some a) r [] = refl
devices_learned d (Some a) r (k ∷ ks) =
    ap (λ (i : ℕ). eqb i d || list_any (λ (j : Kept). eqb j.device d) (map (learn_at a r) ks)) (device_learned a r k)
    ∙ ap (λ (z : Bool). eqb k.device d || z) (devices_learned d (Some a) r ks)

devices_known : (asks : Asking) (d : ℕ) (ks : List Kept) (past rs : List Reply)
    → list_any (λ (k : Kept). eqb k.device d) (known_from asks ks past rs) ≡ list_any (λ (k : Kept). eqb k.device d) ks
devices_known asks d ks past [] = refl
devices_known asks d ks past (r ∷ rs) =
    devices_known asks d (learned ks (asks past) r) (past ++ r ∷ []) rs ∙ devices_learned d (option_and_then access_of (asks past)) r ks

-- ---- replies with hits
filled_from : (x : Cached) (f rs : List Reply)
    → fold (more_filled x) (with_hits x f) rs ≡ with_hits x (fold (more_filled x) (with_hits x f) rs).full
filled_from x f [] = refl
filled_from x f (r ∷ rs) = filled_from x (all_of (with_hits x f) ++ r ∷ []) rs

-- the hits are those behind what stands before them
pub filled-is : (x : Cached) (rs : List Reply) → filled x rs ≡ with_hits x (filled x rs).full
filled-is x rs = filled_from x [] rs

pub filled-more : (x : Cached) (rs : List Reply) (r : Reply) → filled x (rs ++ r ∷ []) ≡ with_hits x (answered x rs ++ r ∷ [])
filled-more x rs r = fold-append (more_filled x) (with_hits x []) rs (r ∷ [])

-- ---- a run with hits beside one without
module _ (b : BoardView) (tree : IsTree b) (xs : ℕ → Cached) (cached : ℕ → Bool) (may : MayBeCached b xs cached) where
  -- these transfers have a history, which gives each caller these replies and leaves devices that are these but for pointers; and
  -- what each caller knows after its replies is so
  record Runs (states : List TargetState) (o : List (ℕ × Cut)) (full : ℕ → List Reply) : Type 0 where
    told : History
    defined : history b (asks_of xs) o ≡ Some told
    replies_are : (c : ℕ) → told.replies c ≡ full c
    same : SameButPointers cached states told.states
    knows : (c : ℕ) → AllByRecursion (Knows b cached states) (known (xs c).asks (xs c).kept (full c))

  runs_as : (states : List TargetState) (o : List (ℕ × Cut)) (full full2 : ℕ → List Reply) → ((c : ℕ) → full c ≡ full2 c)
      → Runs states o full → Runs states o full2
  runs_as states o full full2 e h =
      record {
        told = h.told;
        defined = h.defined;
        replies_are = λ c. h.replies_are c ∙ e c;
        same = h.same;
        knows = λ c. subst (λ (rs : List Reply). AllByRecursion (Knows b cached states) (known (xs c).asks (xs c).kept rs)) (e c)
            (h.knows c);
      }

  -- one transfer more of a caller in the history
  one_told : (o : List (ℕ × Cut)) (h : History) → history b (asks_of xs) o ≡ Some h → (c : ℕ) (cut : Cut) (t : TransferView)
      → (xs c).asks (h.replies c) ≡ Some t → history b (asks_of xs) ((c, cut) ∷ o) ≡ Some (with_told h c (flat b h.states t cut))
  one_told o h defined c cut t asks =
      ap (λ (z : Option History). option_and_then (one_more b (asks_of xs) c cut) z) defined
      ∙ ap (λ (z : Option TransferView). option_map (λ (i : TransferView). with_told h c (flat b h.states i cut)) z) asks

  at_own : {X : Type 0} (f : ℕ → X) (c : ℕ) (y : X) → changed_at f c y c ≡ y
  at_own f c y = ap (λ (z : Bool). cond z y (f c)) (eq-eqb c c refl)

  apart_not : (e c : ℕ) → (e ≡ c → ⊥) → eqb e c ≡ false
  apart_not e c ne = by (eqb e c) refl
    where
      by : (z : Bool) → eqb e c ≡ z → z ≡ false
      by true f = absurd (ne (eqb-true e c f))
      by false f = refl

  at_other : {X : Type 0} (f : ℕ → X) (c : ℕ) (y : X) (e : ℕ) → (e ≡ c → ⊥) → changed_at f c y e ≡ f e
  at_other f c y e ne = ap (λ (z : Bool). cond z y (f e)) (apart_not e c ne)

  -- A TRANSFER over the bus
  step_runs : (states : List TargetState) (o : List (ℕ × Cut)) (full : ℕ → List Reply) → Runs states o full
      → (c : ℕ) (cut : Cut) (t : TransferView) → (xs c).asks (full c) ≡ Some t
      → Runs (flat b states t cut).states ((c, cut) ∷ o) (changed_at full c (full c ++ (flat b states t cut).reply ∷ []))
  step_runs states o full h c cut t asks =
      record {
        told = with_told h.told c (flat b h.told.states t cut);
        defined = one_told o h.told h.defined c cut t (ap (xs c).asks (h.replies_are c) ∙ asks);
        replies_are = λ e. replies_by e (eqb e c);
        same = steps.states;
        knows = λ e. by e (eqb e c) refl;
      }
    where
      harmless : IsHarmless b xs cached c t
      harmless = may.harmless c (full c) t asks

      steps : StepsAlike cached (flat b states t cut) (flat b h.told.states t cut)
      steps = steps-alike b tree xs cached states h.told.states h.same cut c t harmless

      replies_by : (e : ℕ) (z : Bool)
          → cond z (h.told.replies c ++ (flat b h.told.states t cut).reply ∷ []) (h.told.replies e)
          ≡ cond z (full c ++ (flat b states t cut).reply ∷ []) (full e)
      replies_by e true =
          ap (λ (rs : List Reply). rs ++ (flat b h.told.states t cut).reply ∷ []) (h.replies_are c)
          ∙ ap (λ (r : Reply). full c ++ r ∷ []) (sym steps.reply_is)
      replies_by e false = h.replies_are e

      own : AllByRecursion (Knows b cached (flat b states t cut).states)
          (known (xs c).asks (xs c).kept (full c ++ (flat b states t cut).reply ∷ []))
      own =
          subst (λ (ks : List Kept). AllByRecursion (Knows b cached (flat b states t cut).states) ks)
          (sym (known-more (xs c).asks (xs c).kept (full c) (flat b states t cut).reply
          ∙ ap (λ (z : Option TransferView). learned (known (xs c).asks (xs c).kept (full c)) z (flat b states t cut).reply) asks))
          (knows-own b tree xs cached states h.told.states h.same cut c t harmless (known (xs c).asks (xs c).kept (full c)) (h.knows c))

      by : (e : ℕ) (z : Bool) → eqb e c ≡ z
          → AllByRecursion (Knows b cached (flat b states t cut).states)
          (known (xs e).asks (xs e).kept (cond z (full c ++ (flat b states t cut).reply ∷ []) (full e)))
      by e true is =
          subst (λ (i : ℕ). AllByRecursion (Knows b cached (flat b states t cut).states)
          (known (xs i).asks (xs i).kept (full c ++ (flat b states t cut).reply ∷ []))) (sym (eqb-true e c is)) own
      by e false is =
          knows-other b tree xs cached states h.told.states h.same cut c e
          (λ f. (let g : true ≡ false = sym (eq-eqb e c f) ∙ is in absurd cc)) t harmless
          (known (xs e).asks (xs e).kept (full e))
          (λ d there. sym (devices_known (xs e).asks d (xs e).kept [] (full e)) ∙ there) (h.knows e)

  -- A HIT: the world without it is as it was
  hit_runs : (states : List TargetState) (o : List (ℕ × Cut)) (full : ℕ → List Reply) → Runs states o full → (c : ℕ) (answer : Reply)
      → hit (known (xs c).asks (xs c).kept (full c)) ((xs c).asks (full c)) ≡ Some answer
      → Runs states ((c, cut_at.No) ∷ o) (changed_at full c (full c ++ answer ∷ []))
  hit_runs states o full h c answer is = with_asked ((xs c).asks (full c)) refl
    where
      with_asked : (z : Option TransferView) → (xs c).asks (full c) ≡ z → Runs states ((c, cut_at.No) ∷ o)
          (changed_at full c (full c ++ answer ∷ []))
      with_asked None asks = absurd (let f : None ≡ Some answer =
          sym (ap (λ (z : Option TransferView). hit (known (xs c).asks (xs c).kept (full c)) z) asks) ∙ is in cc)
      with_asked (Some t) asks =
          record {
            told = with_told h.told c (flat b h.told.states t cut_at.No);
            defined = one_told o h.told h.defined c cut_at.No t (ap (xs c).asks (h.replies_are c) ∙ asks);
            replies_are = λ e. replies_by e (eqb e c);
            same = subst (λ (z : TransferView). SameButPointers cached states (flat b h.told.states z cut_at.No).states)
                (sym read.transfer) alike.states;
            knows = λ e. by e (eqb e c) refl;
          }
        where
          answered_here : hit (known (xs c).asks (xs c).kept (full c)) (Some t) ≡ Some answer
          answered_here = ap (λ (z : Option TransferView). hit (known (xs c).asks (xs c).kept (full c)) z) (sym asks) ∙ is

          read : IsRead b cached states t answer
          read = hit-is b tree xs cached states c t (may.harmless c (full c) t asks) (known (xs c).asks (xs c).kept (full c))
              (h.knows c) answer
              answered_here

          alike : HitAlike b cached states h.told.states read.d read.v read.r
          alike = hit-alike b tree cached read.d read.v read.at read.is_cached states h.told.states h.same read.r read.opens

          view_is : alike.view ≡ read.view
          view_is = let f : Some (Lm75 alike.view) ≡ Some (Lm75 read.view) = sym alike.here ∙ read.state in cc

          reply_is : (flat b h.told.states t cut_at.No).reply ≡ answer
          reply_is =
              ap (λ (z : TransferView). (flat b h.told.states z cut_at.No).reply) read.transfer ∙ alike.reply_is
              ∙ ap (λ (i : Lm75View). reply.Read (bytes_of (word_of i read.r))) view_is ∙ sym read.answer_is

          replies_by : (e : ℕ) (z : Bool)
              → cond z (h.told.replies c ++ (flat b h.told.states t cut_at.No).reply ∷ []) (h.told.replies e)
              ≡ cond z (full c ++ answer ∷ []) (full e)
          replies_by e true =
              ap (λ (rs : List Reply). rs ++ (flat b h.told.states t cut_at.No).reply ∷ []) (h.replies_are c)
              ∙ ap (λ (r : Reply). full c ++ r ∷ []) reply_is
          replies_by e false = h.replies_are e

          -- what is known after a hit is what was
          own : AllByRecursion (Knows b cached states) (known (xs c).asks (xs c).kept (full c ++ answer ∷ []))
          own =
              subst (λ (js : List Kept). AllByRecursion (Knows b cached states) js)
              (sym (known-more (xs c).asks (xs c).kept (full c) answer
              ∙ ap (λ (z : Option TransferView). learned (known (xs c).asks (xs c).kept (full c)) z answer) (asks ∙ ap Some read.transfer)
              ∙ ap (λ (r : Reply). learned (known (xs c).asks (xs c).kept (full c)) (Some (register_read read.v read.r)) r) read.answer_is))
              (hit-knows b tree cached states read.d read.v read.r read.is_cached read.at read.opens read.view read.state
              (known (xs c).asks (xs c).kept (full c)) (h.knows c))

          by : (e : ℕ) (z : Bool) → eqb e c ≡ z
              → AllByRecursion (Knows b cached states) (known (xs e).asks (xs e).kept (cond z (full c ++ answer ∷ []) (full e)))
          by e true f =
              subst (λ (i : ℕ). AllByRecursion (Knows b cached states) (known (xs i).asks (xs i).kept (full c ++ answer ∷ [])))
              (sym (eqb-true e c f)) own
          by e false f = h.knows e

  -- all hits of a caller, one after the other
  hits_runs : (n : ℕ) (states : List TargetState) (o : List (ℕ × Cut)) (full : ℕ → List Reply) → Runs states o full → (c : ℕ)
      → Runs states (map (λ (r : Reply). (c, cut_at.No)) (hits_from (xs c).asks (xs c).kept n (full c)) ++ o)
      (changed_at full c (full c ++ hits_from (xs c).asks (xs c).kept n (full c)))
  hits_runs zero states o full h c = runs_as states o full (changed_at full c (full c ++ [])) (λ e. by e (eqb e c) refl) h
    where
      by : (e : ℕ) (z : Bool) → eqb e c ≡ z → full e ≡ cond z (full c ++ []) (full e)
      by e true f = ap full (eqb-true e c f) ∙ sym (append-nil (full c))
      by e false f = refl
  hits_runs (suc n) states o full h c =
      by (hit (known (xs c).asks (xs c).kept (full c)) ((xs c).asks (full c))) refl
      (λ answer. hits_runs n states ((c, cut_at.No) ∷ o) (changed_at full c (full c ++ answer ∷ [])))
    where
      by : (z : Option Reply) → hit (known (xs c).asks (xs c).kept (full c)) ((xs c).asks (full c)) ≡ z
          → ((answer : Reply) → Runs states ((c, cut_at.No) ∷ o) (changed_at full c (full c ++ answer ∷ [])) → (e : ℕ)
          → Runs states (map (λ (r : Reply). (e, cut_at.No)) (hits_from (xs e).asks (xs e).kept n
          (changed_at full c (full c ++ answer ∷ []) e)) ++ ((c, cut_at.No) ∷ o))
          (changed_at (changed_at full c (full c ++ answer ∷ [])) e
          (changed_at full c (full c ++ answer ∷ []) e ++ hits_from (xs e).asks (xs e).kept n
          (changed_at full c (full c ++ answer ∷ []) e))))
          → Runs states (map (λ (r : Reply). (c, cut_at.No)) (hits_from (xs c).asks (xs c).kept (suc n) (full c)) ++ o)
          (changed_at full c (full c ++ hits_from (xs c).asks (xs c).kept (suc n) (full c)))
      by None e more =
          subst (λ (z : Option Reply). Runs states
          (map (λ (r : Reply). (c, cut_at.No)) (option_map_or (λ (r : Reply). r ∷ hits_from (xs c).asks (xs c).kept n
          (full c ++ r ∷ [])) z []) ++ o)
          (changed_at full c (full c ++ option_map_or (λ (r : Reply). r ∷ hits_from (xs c).asks (xs c).kept n (full c ++ r ∷ [])) z [])))
          (sym e)
          (runs_as states o full (changed_at full c (full c ++ [])) (λ i. none_by i (eqb i c) refl) h)
        where
          none_by : (i : ℕ) (z : Bool) → eqb i c ≡ z → full i ≡ cond z (full c ++ []) (full i)
          none_by i true f = ap full (eqb-true i c f) ∙ sym (append-nil (full c))
          none_by i false f = refl
      by (Some answer) e more =
          subst (λ (z : Option Reply). Runs states
          (map (λ (r : Reply). (c, cut_at.No)) (option_map_or (λ (r : Reply). r ∷ hits_from (xs c).asks (xs c).kept n
          (full c ++ r ∷ [])) z []) ++ o)
          (changed_at full c (full c ++ option_map_or (λ (r : Reply). r ∷ hits_from (xs c).asks (xs c).kept n (full c ++ r ∷ [])) z [])))
          (sym e)
          (subst (λ (l : List (ℕ × Cut)). Runs states l
          (changed_at full c (full c ++ (answer ∷ hits_from (xs c).asks (xs c).kept n (full c ++ answer ∷ [])))))
          (all_one (hits_from (xs c).asks (xs c).kept n (full c ++ answer ∷ [])))
          (runs_as states
          (map (λ (r : Reply). (c, cut_at.No)) (hits_from (xs c).asks (xs c).kept n (full c ++ answer ∷ [])) ++ ((c, cut_at.No) ∷ o))
          (changed_at (changed_at full c (full c ++ answer ∷ [])) c
          ((full c ++ answer ∷ []) ++ hits_from (xs c).asks (xs c).kept n (full c ++ answer ∷ [])))
          (changed_at full c (full c ++ (answer ∷ hits_from (xs c).asks (xs c).kept n (full c ++ answer ∷ []))))
          (λ i. twice i (eqb i c))
          (subst (λ (rs : List Reply). Runs states
          (map (λ (r : Reply). (c, cut_at.No)) (hits_from (xs c).asks (xs c).kept n rs) ++ ((c, cut_at.No) ∷ o))
          (changed_at (changed_at full c (full c ++ answer ∷ [])) c (rs ++ hits_from (xs c).asks (xs c).kept n rs)))
          (at_own full c (full c ++ answer ∷ []))
          (more answer (hit_runs states o full h c answer e) c))))
        where
          all_one : (rs : List Reply)
              → map (λ (r : Reply). (c, cut_at.No)) rs ++ ((c, cut_at.No) ∷ o) ≡ (c, cut_at.No) ∷ map
              (λ (r : Reply). (c, cut_at.No)) rs ++ o
          all_one [] = refl
          all_one (r ∷ rs) = ap (λ (l : List (ℕ × Cut)). (c, cut_at.No) ∷ l) (all_one rs)

          twice : (i : ℕ) (z : Bool)
              → cond z ((full c ++ answer ∷ []) ++ hits_from (xs c).asks (xs c).kept n (full c ++ answer ∷ []))
              (cond z (full c ++ answer ∷ []) (full i))
              ≡ cond z (full c ++ (answer ∷ hits_from (xs c).asks (xs c).kept n (full c ++ answer ∷ []))) (full i)
          twice i true = append_assoc (full c) (answer ∷ []) (hits_from (xs c).asks (xs c).kept n (full c ++ answer ∷ []))
          twice i false = refl

  -- the hits after these replies of a caller
  hits_behind : (states : List TargetState) (o : List (ℕ × Cut)) (full : ℕ → List Reply) → Runs states o full → (c : ℕ) (rs : List Reply)
      → full c ≡ (filled (xs c) rs).full → Runs states (hits_of xs c rs ++ o) (changed_at full c (answered (xs c) rs))
  hits_behind states o full h c rs e =
      subst (λ (hs : List Reply). Runs states (map (λ (r : Reply). (c, cut_at.No)) hs ++ o)
      (changed_at full c ((filled (xs c) rs).full ++ hs)))
      (sym (ap (λ (z : Filled). z.hits) (filled-is (xs c) rs)))
      (subst (λ (l : List Reply). Runs states
      (map (λ (r : Reply). (c, cut_at.No)) (hits_from (xs c).asks (xs c).kept ((xs c).left (filled (xs c) rs).full) l) ++ o)
      (changed_at full c (l ++ hits_from (xs c).asks (xs c).kept ((xs c).left (filled (xs c) rs).full) l))) e
      (hits_runs ((xs c).left (filled (xs c) rs).full) states o full h c))

  abbrev full_of : List Entry → ℕ → List Reply
  full_of past c = (filled (xs c) (replies past c)).full

  -- AT THE OPENING nothing is known
  opened_at : (ds : List DeviceView) (i : ℕ) → slice_get (map opening_state ds) i ≡ option_map opening_state (slice_get ds i)
  opened_at [] i = refl
  opened_at (d ∷ ds) zero = refl
  opened_at (d ∷ ds) (suc i) = opened_at ds i

  opened_sensor : (d : ℕ) → cached d ≡ true
      → SameSensor (slice_get (map opening_state b.devices) d) (slice_get (map opening_state b.devices) d)
  opened_sensor d is =
      let s = may.sensors d is in
      let here : slice_get (map opening_state b.devices) d ≡ Some (Lm75 (lm75_opening s.1.raw)) =
      opened_at b.devices d ∙ ap (λ (o : Option DeviceView). option_map opening_state o) s.1.at
      ∙ ap (λ (k : _). Some ((row_of_kind k).opens s.0.addr s.0.set)) s.1.kind in
      record { view = lm75_opening s.1.raw; rests = refl; here = here; pointer = 0; there = here }

  opened_knows : (ds : List ℕ) → AllByRecursion (λ (d : ℕ). cached d ≡ true) ds
      → AllByRecursion (Knows b cached (map opening_state b.devices)) (map (unknown b) ds)
  opened_knows [] all = tt
  opened_knows (d ∷ ds) all = (
    record {
      v = (may.sensors d (all.0)).0;
      at = (may.sensors d (all.0)).1.at;
      bus = ap (λ (o : Option DeviceView). unwrap_or (option_map (λ (x : DeviceView). x.bus) o) 0) (may.sensors d (all.0)).1.at;
      addr = ap (λ (o : Option DeviceView). unwrap_or (option_map (λ (x : DeviceView). x.addr) o) 0) (may.sensors d (all.0)).1.at;
      is_cached = all.0;
      hysteresis = λ p e. absurd (let f : None ≡ Some p = e in cc);
      limit = λ p e. absurd (let f : None ≡ Some p = e in cc);
    },
    opened_knows ds all.1,
  )

  opened_runs : Runs (map opening_state b.devices) [] (full_of [])
  opened_runs =
      record {
        told = opening_history b;
        defined = refl;
        replies_are = λ c. refl;
        same = record { others = λ d e. refl; sensors = opened_sensor };
        knows = λ c. (
            let k = may.kept c in
            subst (λ (ks : List Kept). AllByRecursion (Knows b cached (map opening_state b.devices)) ks) (sym k.1) (opened_knows k.0 k.2));
      }

  -- ENTRY BY ENTRY
  snoc_is : (us bs : List Reply) (x y : Reply) → us ++ x ∷ [] ≡ bs ++ y ∷ [] → (us ≡ bs) × (x ≡ y)
  snoc_is [] [] x y e = (refl, let f : x ∷ [] ≡ y ∷ [] = e in cc)
  snoc_is [] (b1 ∷ []) x y e = absurd (let f : x ∷ [] ≡ b1 ∷ y ∷ [] = e in cc)
  snoc_is [] (b1 ∷ b2 ∷ bs) x y e = absurd (let f : x ∷ [] ≡ b1 ∷ b2 ∷ (bs ++ y ∷ []) = e in cc)
  snoc_is (a1 ∷ []) [] x y e = absurd (let f : a1 ∷ x ∷ [] ≡ y ∷ [] = e in cc)
  snoc_is (a1 ∷ a2 ∷ us) [] x y e = absurd (let f : a1 ∷ a2 ∷ (us ++ x ∷ []) ≡ y ∷ [] = e in cc)
  snoc_is (a1 ∷ us) (b1 ∷ bs) x y e =
      let f : a1 ∷ (us ++ x ∷ []) ≡ b1 ∷ (bs ++ y ∷ []) = e in
      let heads : a1 ≡ b1 = cc in
      let tails : us ++ x ∷ [] ≡ bs ++ y ∷ [] = cc in
      let r = snoc_is us bs x y tails in
      (ap (λ (z : Reply). z ∷ us) heads ∙ ap (λ (l : List Reply). b1 ∷ l) r.0, r.1)

  -- a settle of c with this reply
  settled_runs : (c : ℕ) (r : Reply) (cut : Cut) (past : List Entry)
      → ((h : History) → history b (cached_asks xs) (order past) ≡ Some h → ((e : ℕ) → h.replies e ≡ replies past e)
      → Runs h.states (order_before xs past) (full_of past))
      → (h : History) → history b (cached_asks xs) (order (entry.Settle c r cut ∷ past)) ≡ Some h
      → ((e : ℕ) → h.replies e ≡ replies (entry.Settle c r cut ∷ past) e)
      → Runs h.states (order_before xs (entry.Settle c r cut ∷ past)) (full_of (entry.Settle c r cut ∷ past))
  settled_runs c r cut past before h defined same = from (history b (cached_asks xs) (order past)) refl
    where
      -- the history before it, and the transfer
      with_before : (h0 : History) (t : TransferView) → history b (cached_asks xs) (order past) ≡ Some h0
          → cached_asks xs c (h0.replies c) ≡ Some t → with_told h0 c (flat b h0.states t cut) ≡ h
          → Runs h.states (order_before xs (entry.Settle c r cut ∷ past)) (full_of (entry.Settle c r cut ∷ past))
      with_before h0 t defined0 asks is =
          subst (λ (z : History). Runs z.states ((c, cut) ∷ (hits_of xs c (replies past c) ++ order_before xs past))
          (full_of (entry.Settle c r cut ∷ past))) is
          (runs_as (flat b h0.states t cut).states ((c, cut) ∷ (hits_of xs c (replies past c) ++ order_before xs past))
          (changed_at hit_full c (hit_full c ++ (flat b h0.states t cut).reply ∷ [])) (full_of (entry.Settle c r cut ∷ past))
          (λ e. full_by e (eqb e c) refl)
          (step_runs h0.states (hits_of xs c (replies past c) ++ order_before xs past) hit_full behind c cut t
          (ap (xs c).asks (at_own (full_of past) c (answered (xs c) (replies past c))) ∙ asked)))
        where
          told_at : (e : ℕ) → changed_at h0.replies c (h0.replies c ++ (flat b h0.states t cut).reply ∷ []) e ≡ cond (eqb c e)
              (replies past e ++ r ∷ []) (replies past e)
          told_at e = ap (λ (z : History). z.replies e) is ∙ same e

          own_told : (h0.replies c ≡ replies past c) × ((flat b h0.states t cut).reply ≡ r)
          own_told =
              snoc_is (h0.replies c) (replies past c) (flat b h0.states t cut).reply r
              (sym (at_own h0.replies c (h0.replies c ++ (flat b h0.states t cut).reply ∷ [])) ∙ told_at c
              ∙ ap (λ (z : Bool). cond z (replies past c ++ r ∷ []) (replies past c)) (eq-eqb c c refl))

          replies0 : (e : ℕ) → h0.replies e ≡ replies past e
          replies0 e = by (eqb e c) refl
            where
              by : (z : Bool) → eqb e c ≡ z → h0.replies e ≡ replies past e
              by true f = subst (λ (i : ℕ). h0.replies i ≡ replies past i) (sym (eqb-true e c f)) own_told.0
              by false f =
                  let ne : e ≡ c → ⊥ = λ g. (let k : true ≡ false = sym (eq-eqb e c g) ∙ f in absurd cc) in
                  sym (at_other h0.replies c (h0.replies c ++ (flat b h0.states t cut).reply ∷ []) e ne) ∙ told_at e
                  ∙ ap (λ (z : Bool). cond z (replies past e ++ r ∷ []) (replies past e)) (apart_not c e (λ g. ne (sym g)))

          asked : (xs c).asks (answered (xs c) (replies past c)) ≡ Some t
          asked = ap (λ (rs : List Reply). (xs c).asks (answered (xs c) rs)) (sym own_told.0) ∙ asks

          hit_full : ℕ → List Reply
          hit_full = changed_at (full_of past) c (answered (xs c) (replies past c))

          behind : Runs h0.states (hits_of xs c (replies past c) ++ order_before xs past) hit_full
          behind = hits_behind h0.states (order_before xs past) (full_of past) (before h0 defined0 replies0) c (replies past c) refl

          full_by : (e : ℕ) (z : Bool) → eqb e c ≡ z
              → cond z (hit_full c ++ (flat b h0.states t cut).reply ∷ []) (hit_full e) ≡ full_of (entry.Settle c r cut ∷ past) e
          full_by e true f =
              ap (λ (rs : List Reply). rs ++ (flat b h0.states t cut).reply ∷ []) (at_own (full_of past) c
              (answered (xs c) (replies past c)))
              ∙ ap (λ (z : Reply). answered (xs c) (replies past c) ++ z ∷ []) own_told.1
              ∙ sym (ap (λ (z : Filled). z.full) (filled-more (xs c) (replies past c) r))
              ∙ ap (λ (z : Bool). (filled (xs c) (cond z (replies past c ++ r ∷ []) (replies past c))).full) (sym (eq-eqb c c refl))
              ∙ ap (λ (i : ℕ). full_of (entry.Settle c r cut ∷ past) i) (sym (eqb-true e c f))
          full_by e false f =
              let ne : e ≡ c → ⊥ = λ g. (let k : true ≡ false = sym (eq-eqb e c g) ∙ f in absurd cc) in
              at_other (full_of past) c (answered (xs c) (replies past c)) e ne
              ∙ ap (λ (z : Bool). (filled (xs e) (cond z (replies past e ++ r ∷ []) (replies past e))).full)
              (sym (apart_not c e (λ g. ne (sym g))))

      asked_from : (h0 : History) → history b (cached_asks xs) (order past) ≡ Some h0 → (o : Option TransferView)
          → cached_asks xs c (h0.replies c) ≡ o
          → option_map (λ (t : TransferView). with_told h0 c (flat b h0.states t cut)) o ≡ Some h
          → Runs h.states (order_before xs (entry.Settle c r cut ∷ past)) (full_of (entry.Settle c r cut ∷ past))
      asked_from h0 defined0 None asks is = absurd (let f : None ≡ Some h = is in cc)
      asked_from h0 defined0 (Some t) asks is =
          with_before h0 t defined0 asks (let f : Some (with_told h0 c (flat b h0.states t cut)) ≡ Some h = is in cc)

      from : (o : Option History) → history b (cached_asks xs) (order past) ≡ o
          → Runs h.states (order_before xs (entry.Settle c r cut ∷ past)) (full_of (entry.Settle c r cut ∷ past))
      from None e =
          absurd (let f : None ≡ Some h = sym (ap (λ (z : Option History). option_and_then (one_more b (cached_asks xs) c cut) z) e)
          ∙ defined in cc)
      from (Some h0) e =
          asked_from h0 e (cached_asks xs c (h0.replies c)) refl
          (sym (ap (λ (z : Option History). option_and_then (one_more b (cached_asks xs) c cut) z) e) ∙ defined)

  runs : (past : List Entry) (h : History) → history b (cached_asks xs) (order past) ≡ Some h → ((e : ℕ) → h.replies e ≡ replies past e)
      → Runs h.states (order_before xs past) (full_of past)
  runs [] h defined same =
      let is : opening_history b ≡ h = (let f : Some (opening_history b) ≡ Some h = defined in cc) in
      subst (λ (z : History). Runs z.states [] (full_of [])) is opened_runs
  runs (entry.Settle c r cut ∷ past) h defined same = settled_runs c r cut past (λ h0 d s. runs past h0 d s) h defined same
  runs (entry.Take c l ∷ past) h defined same = runs past h defined same
  runs (entry.Free c l ∷ past) h defined same = runs past h defined same
  runs (entry.Line c mux level failed ∷ past) h defined same = runs past h defined same
  runs (entry.Message c bus why part parts addr reading bytes heard e ∷ past) h defined same = runs past h defined same

  -- AT THE END the last hits of each caller
  abbrev all_full : List Entry → ℕ → ℕ → List Reply
  all_full past zero = full_of past
  all_full past (suc n) = changed_at (all_full past n) n (answered (xs n) (replies past n))

  full_above : (past : List Entry) (n e : ℕ) → n ≤ e → all_full past n e ≡ full_of past e
  full_above past zero e le = refl
  full_above past (suc n) e le =
      at_other (all_full past n) n (answered (xs n) (replies past n)) e (λ f. absurd (omega (arith, le, f)))
      ∙ full_above past n e (omega (arith, le))

  full_below : (past : List Entry) (n e : ℕ) → e < n → all_full past n e ≡ answered (xs e) (replies past e)
  full_below past zero e lt = absurd (omega (arith, lt))
  full_below past (suc n) e lt = by (eqb e n) refl (full_below past n e)
    where
      by : (z : Bool) → eqb e n ≡ z → (e < n → all_full past n e ≡ answered (xs e) (replies past e))
          → cond z (answered (xs n) (replies past n)) (all_full past n e) ≡ answered (xs e) (replies past e)
      by true f more = ap (λ (i : ℕ). answered (xs i) (replies past i)) (sym (eqb-true e n f))
      by false f more =
          let ne : e ≡ n → ⊥ = λ g. (let k : true ≡ false = sym (eq-eqb e n g) ∙ f in absurd cc) in
          more (grind (arith, lt, ne))

  last_runs : (states : List TargetState) (past : List Entry) → Runs states (order_before xs past) (full_of past) → (n : ℕ)
      → Runs states (last_hits xs past n ++ order_before xs past) (all_full past n)
  last_runs states past h zero = h
  last_runs states past h (suc n) =
      subst (λ (l : List (ℕ × Cut)). Runs states l (all_full past (suc n)))
      (sym (append_assoc (hits_of xs n (replies past n)) (last_hits xs past n) (order_before xs past)))
      (hits_behind states (last_hits xs past n ++ order_before xs past) (all_full past n) (last_runs states past h n) n (replies past n)
      (full_above past n n (omega arith)))

  pub full-replayed : (callers : ℕ) (past : List Entry) (h : History) → history b (cached_asks xs) (order past) ≡ Some h
      → ((e : ℕ) → replies past e ≡ h.replies e) → IsReplayed b xs cached callers past h.states
  full-replayed callers past h defined same =
      let r : Runs h.states (full_order xs callers past) (all_full past callers) =
      last_runs h.states past (runs past h defined (λ e. sym (same e))) callers in
      record {
        told = r.told;
        defined = r.defined;
        replies_are = λ c within. r.replies_are c ∙ full_below past callers c within;
        left = r.same;
      }
