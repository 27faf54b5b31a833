-- Who pulls SDA and who holds SCL, at each edge: nobody that is out of a message, and nobody more at a rise.
use Rattle.std.proofs.Common.{◌≡◌, ℕ, zero, suc, ◌+◌, ◌-◌, ◌/◌, ◌%◌, ◌==◌, Bool, true, false, cond, List, [], ◌∷◌, map, refl, ap, sym, ◌∙◌, subst}
use Rattle.std.specs.Prelude.{◌&&◌, ◌||◌}
use Rattle.std.specs.List.{AllByRecursion}
use Rattle.wire_spec.specs.declared.mode.Mode.{Mode}
use Rattle.wire_spec.specs.declared.mode.Mode.TheVariants.{Out, In, Answered, Give, Gave}
use Rattle.wire_spec.specs.Wires.{Site, Bit, called, other, stands, shift, give, rise_in, rise, fall, fallen, tick, waited, begin, finish, shifted, pulls, pulls_at, holds}
use Rattle.wire_spec.specs.Roots.{some_one, pulls_line, where_joined}
use Rattle.wire_spec.specs.Bus.{holds_line, rejoin_from}
use Rattle.wire_spec.specs.Sites.{NodeState, node_table}
use Rattle.i2c_bits.specs.Wiring.{levelled_bits}
use Rattle.bus_waves.specs.Recordings.{IsAway, IsAside}

-- ---- out of a message
away_holds : (b : Bit NodeState) → IsAway b → holds_line b ≡ false
away_holds b away =
    ap (λ (m : Mode). b.site.joined && holds (stands b.site m b.hold)) away.mode
    ∙ ap (λ (n : ℕ). b.site.joined && holds (stands b.site Out n)) away.hold ∙ and_none b.site.joined
  where
    and_none : (j : Bool) → j && false ≡ false
    and_none true = refl
    and_none false = refl

away_pulls : (b : Bit NodeState) → IsAway b → pulls_line node_table b ≡ false
away_pulls b away = ap (λ (m : Mode). b.site.joined && pulls_at (node_table.sends b.site.state) m) away.mode ∙ and_none b.site.joined
  where
    and_none : (j : Bool) → j && false ≡ false
    and_none true = refl
    and_none false = refl

pub none_hold : (bs : List (Bit NodeState)) → AllByRecursion IsAway bs → some_one holds_line bs ≡ false
none_hold [] all = refl
none_hold (b ∷ bs) all = ap (λ h. h || some_one holds_line bs) (away_holds b all.0) ∙ none_hold bs all.1

pub none_pull : (bs : List (Bit NodeState)) → AllByRecursion IsAway bs → some_one (pulls_line node_table) bs ≡ false
none_pull [] all = refl
none_pull (b ∷ bs) all = ap (λ h. h || some_one (pulls_line node_table) bs) (away_pulls b all.0) ∙ none_pull bs all.1

-- an edge that leaves them so
away_where : (f : Bit NodeState → Bit NodeState) → ((b : Bit NodeState) → IsAway b → IsAway (f b)) → (j : Bool) (b : Bit NodeState)
    → IsAway b → IsAway (cond j (f b) b)
away_where f keeps true b away = keeps b away
away_where f keeps false b away = away

pub away_each : (f : Bit NodeState → Bit NodeState) → ((b : Bit NodeState) → IsAway b → IsAway (f b)) → (bs : List (Bit NodeState))
    → AllByRecursion IsAway bs → AllByRecursion IsAway (map (where_joined f) bs)
away_each f keeps [] all = tt
away_each f keeps (b ∷ bs) all = (away_where f keeps b.site.joined b all.0, away_each f keeps bs all.1)

pub fall_away : (b : Bit NodeState) → IsAway b → IsAway (fall b)
fall_away b away = record { mode = ap fallen away.mode; hold = away.hold }

pub tick_away : (b : Bit NodeState) → IsAway b → IsAway (tick b)
tick_away b away = record { mode = ap waited away.mode; hold = ap (λ n. n - 1) away.hold }

pub rise_away : (level : Bool) (b : Bit NodeState) → IsAway b → IsAway (rise node_table b level)
rise_away level b away =
    let same : rise node_table b level ≡ b = ap (λ m. rise_in node_table b m level) away.mode in
    subst IsAway (sym same) away

-- ---- who isn't joined
aside_where : (f : Bit NodeState → Bit NodeState) → ((b : Bit NodeState) → (f b).site.joined ≡ b.site.joined) → (b : Bit NodeState)
    → (j : Bool) → b.site.joined ≡ j → IsAside b → IsAside (cond j (f b) b)
aside_where f keeps b true is aside = λ apart. let e : true ≡ false = sym is ∙ sym (keeps b) ∙ apart in cc
aside_where f keeps b false is aside = aside

pub aside_each : (f : Bit NodeState → Bit NodeState) → ((b : Bit NodeState) → (f b).site.joined ≡ b.site.joined)
    → (bs : List (Bit NodeState)) → AllByRecursion IsAside bs → AllByRecursion IsAside (map (where_joined f) bs)
aside_each f keeps [] all = tt
aside_each f keeps (b ∷ bs) all = (aside_where f keeps b b.site.joined refl all.0, aside_each f keeps bs all.1)

pub away_aside : (bs : List (Bit NodeState)) → AllByRecursion IsAway bs → AllByRecursion IsAside bs
away_aside [] all = tt
away_aside (b ∷ bs) all = (λ apart. all.0, away_aside bs all.1)

-- ---- a stop, and a line
finish_where : (b : Bit NodeState) (j : Bool) → b.site.joined ≡ j → IsAside b → IsAway (cond j (finish node_table b) b)
finish_where b true is aside = record { mode = refl; hold = refl }
finish_where b false is aside = aside is

pub finish_each : (bs : List (Bit NodeState)) → AllByRecursion IsAside bs
    → AllByRecursion IsAway (map (where_joined (finish node_table)) bs)
finish_each [] all = tt
finish_each (b ∷ bs) all = (finish_where b b.site.joined refl all.0, finish_each bs all.1)

pub rejoin_away : (f : ℕ → Bool) (k : ℕ) (bs : List (Bit NodeState)) → AllByRecursion IsAway bs
    → AllByRecursion IsAway (rejoin_from f k bs)
rejoin_away f k [] all = tt
rejoin_away f k (b ∷ bs) all = (record { mode = all.0.mode; hold = all.0.hold }, rejoin_away f (k + 1) bs all.1)

pub level_away : (m level : ℕ) (bs : List (Bit NodeState)) → AllByRecursion IsAway bs → AllByRecursion IsAway (levelled_bits m level bs)
level_away m level [] all = tt
level_away zero level (b ∷ bs) all = (record { mode = all.0.mode; hold = all.0.hold }, all.1)
level_away (suc m) level (b ∷ bs) all = (all.0, level_away m level bs all.1)

-- ---- a rise changes nobody's pull of SDA, and who is joined stays
named_joined : (s : Site NodeState) (byte : ℕ) (is : Bool)
    → (cond {A = Bit NodeState} is (called node_table s ((byte % 2) == 1)) (stands (other node_table s) Out 0)).site.joined ≡ s.joined
named_joined s byte true = refl
named_joined s byte false = refl

shift_joined : (b : Bit NodeState) (address : Bool) (left v : ℕ) → (shift node_table b address left v).site.joined ≡ b.site.joined
shift_joined b address zero v = refl
shift_joined b true (suc zero) v = named_joined b.site v ((v / 2) == b.site.addr)
shift_joined b false (suc zero) v = refl
shift_joined b address (suc (suc n)) v = refl

give_joined : (b : Bit NodeState) (left : ℕ) (l : Bool) → (give node_table b left l).site.joined ≡ b.site.joined
give_joined b zero l = refl
give_joined b (suc n) l = refl

rise_in_joined : (b : Bit NodeState) (m : Mode) (l : Bool) → (rise_in node_table b m l).site.joined ≡ b.site.joined
rise_in_joined b Out l = refl
rise_in_joined b (In address left v) l = shift_joined b address left (shifted v l)
rise_in_joined b (Answered begun acked next looks) l = refl
rise_in_joined b (Give left) l = give_joined b left l
rise_in_joined b (Gave more) l = refl

pub rise_joined : (l : Bool) (b : Bit NodeState) → (rise node_table b l).site.joined ≡ b.site.joined
rise_joined l b = rise_in_joined b b.mode l

named_quiet : (s : Site NodeState) (byte : ℕ) (is : Bool)
    → pulls node_table (cond {A = Bit NodeState} is (called node_table s ((byte % 2) == 1)) (stands (other node_table s) Out 0)) ≡ false
named_quiet s byte true = refl
named_quiet s byte false = refl

shift_quiet : (s : Site NodeState) (k : ℕ) (address : Bool) (left v w : ℕ)
    → pulls node_table (shift node_table (stands s (In address left w) k) address left v) ≡ false
shift_quiet s k address zero v w = refl
shift_quiet s k true (suc zero) v w = named_quiet s v ((v / 2) == s.addr)
shift_quiet s k false (suc zero) v w = refl
shift_quiet s k address (suc (suc n)) v w = refl

rise_pulls_in : (s : Site NodeState) (m : Mode) (k : ℕ) (l : Bool)
    → pulls node_table (rise node_table (stands s m k) l) ≡ pulls node_table (stands s m k)
rise_pulls_in s Out k l = refl
rise_pulls_in s (In address left v) k l = shift_quiet s k address left (shifted v l) v
rise_pulls_in s (Answered begun acked next looks) k l = refl
rise_pulls_in s (Give zero) k l = refl
rise_pulls_in s (Give (suc n)) k l = refl
rise_pulls_in s (Gave more) k l = refl

rise_pulls_where : (l : Bool) (b : Bit NodeState) (j : Bool) → b.site.joined ≡ j
    → pulls_line node_table (cond j (rise node_table b l) b) ≡ pulls_line node_table b
rise_pulls_where l b true is =
    ap (λ i. i && pulls node_table (rise node_table b l)) (rise_joined l b)
    ∙ ap (λ p. b.site.joined && p) (rise_pulls_in b.site b.mode b.hold l)
rise_pulls_where l b false is = refl

pub rises_pull : (l : Bool) (bs : List (Bit NodeState))
    → some_one (pulls_line node_table) (map (where_joined (λ b. rise node_table b l)) bs) ≡ some_one (pulls_line node_table) bs
rises_pull l [] = refl
rises_pull l (b ∷ bs) =
    ap (λ p. p || some_one (pulls_line node_table) (map (where_joined (λ c. rise node_table c l)) bs))
    (rise_pulls_where l b b.site.joined refl)
    ∙ ap (λ p. pulls_line node_table b || p) (rises_pull l bs)

-- nobody holds SCL behind a start
begin_where : (b : Bit NodeState) (j : Bool) → b.site.joined ≡ j → holds_line (cond j (begin b) b) ≡ false
begin_where b true is = ap (λ i. i && false) is
begin_where b false is = ap (λ i. i && holds b) is

pub begun_hold : (bs : List (Bit NodeState)) → some_one holds_line (map (where_joined begin) bs) ≡ false
begun_hold [] = refl
begun_hold (b ∷ bs) =
    ap (λ h. h || some_one holds_line (map (where_joined begin) bs)) (begin_where b b.site.joined refl) ∙ begun_hold bs
