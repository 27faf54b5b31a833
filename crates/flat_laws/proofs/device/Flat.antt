-- A transfer in the flat world has to do with the devices of its own root alone. The inductions go over hops, and over
-- the messages.
use Rattle.flat_laws.proofs.Cited.{◌≡◌, ℕ, ◌+◌, Bool, true, false, cond, ◌&&◌, List, [], ◌∷◌, Option, Some, None, eqb, refl, sym, ◌∙◌}
use Rattle.flat_laws.proofs.Cited.{ap, zero-add, slice_get, unwrap_or, AllByRecursion, option_map, Errno, Cut}
use Rattle.flat_laws.proofs.Cited.{BoardView, DeviceView, TransferView, root_of, IsTree, TargetState, MessageView, messages_of}
use Rattle.flat_laws.proofs.Cited.{World, FlatListener, idle, flat_listener, granted_on}
use Rattle.flat_laws.proofs.Cited.{block_limit, cut_in, errno_of, or_done, barred, flat_by, flat_messages, flat, TalkTold, talk}
use Rattle.flat_laws.proofs.Cited.{talk_all, is_empty, is_good, with_read, IsOf, Same, ToldAlike, talk_part}
use Rattle.std.proofs.Common.{not, ◌||◌}
use Rattle.std.specs.List.{position_from}
use Rattle.i2c_base.specs.declared.tree.Grant.TheVariants as grant
use Rattle.i2c_spec.specs.Tree.{is_below, is_on_path, is_aside}
use Rattle.i2c_spec.specs.Grant.{some_chip, some_device, some_bound, named_by, named_of}
use Rattle.i2c_spec.specs.Flat.{is_member}
use Rattle.i2c_spec.specs.Conversation.{is_it}
use Rattle.bus_laws.specs.Alike.{listening}
use Rattle.flat_laws.specs.Parts.{FlatSame}
use Rattle.bus_laws.proofs.device.Alike.{AllAlike, Any, FlatAlike, all-alike, all-any, cond-all, flat_all-unnamed, flat_talk-alike}
use Rattle.bus_laws.proofs.device.Alike.{read-alike}
use Rattle.bus_laws.proofs.device.Grant.{path_over, position_at}
use Rattle.i2c_spec.proofs.MessageLemmas.{is_it-some}
use Rattle.i2c_base.proofs.Booleans.{and_last}
use Rattle.bus_laws.proofs.world.Reach.{root_over}

names_passed : (p q y z : Bool) (o : Option ℕ) (d : ℕ)
    → named_of (cond p grant.Busy (cond q grant.Busy (cond y grant.Busy (cond z grant.Busy (named_by o))))) ≡ Some d → o ≡ Some d
names_passed true q y z o d e = absurd (let f : None ≡ Some d = e in cc)
names_passed false true y z o d e = absurd (let f : None ≡ Some d = e in cc)
names_passed false false true z o d e = absurd (let f : None ≡ Some d = e in cc)
names_passed false false false true o d e = absurd (let f : None ≡ Some d = e in cc)
names_passed false false false false None d e = absurd (let f : None ≡ Some d = e in cc)
names_passed false false false false (Some k) d e = e

-- a device that a bus grants is one of its root
pub granted-own : (b : BoardView) → IsTree b → (s a : ℕ) (force : Bool) (d : ℕ) → granted_on b s force a ≡ Some d → IsOf b (root_of b s) d
granted-own b tree s a force d e =
    let first : position_from (λ (x : DeviceView). eqb x.addr a && is_on_path b s x.bus) 0 b.devices ≡ Some d =
    names_passed (some_chip b a (is_on_path b s)) (some_chip b a (λ u. is_below b u s) || some_device b a (λ u. is_below b u s))
    (some_chip b a (is_aside b s) || some_device b a (is_aside b s))
    (not force && some_bound b a (is_on_path b s))
    (position_from (λ (x : DeviceView). eqb x.addr a && is_on_path b s x.bus) 0 b.devices) d e in
    let r = position_at (λ (x : DeviceView). eqb x.addr a && is_on_path b s x.bus) 0 b.devices d first in
    let at : slice_get b.devices d ≡ Some r.1 = ap (λ (i : ℕ). slice_get b.devices i) (r.2 ∙ zero-add r.0) ∙ r.3 in
    ap (λ (o : Option DeviceView). root_of b (unwrap_or (option_map (λ (x : DeviceView). x.bus) o) 0)) at
    ∙ root_over b tree s r.1.bus (path_over b s r.1.bus (and_last (eqb r.1.addr a) (is_on_path b s r.1.bus) r.4))

-- TWO FLAT WORLDS that have the same devices of a root: a world is the same beside each of them
pub same-alike : (b : BoardView) (r : ℕ) (w : World) (f g : FlatListener) → Same b r w f → FlatAlike (IsOf b r) f g → Same b r w g
same-alike b r w f g s alike =
    record {
      board = s.board;
      root = s.root;
      states = λ d own. s.states d own ∙ alike.states d own;
      bytes = λ d x own at. s.bytes d x own (alike.states d own ∙ at);
      quiet = λ d x own e at. s.quiet d x own (ap (λ (ds : List ℕ). is_member d ds) alike.named ∙ e) (alike.states d own ∙ at);
      hearing = s.hearing ∙ ap listening alike.current;
      joined = λ d e. s.joined d (ap (λ (ds : List ℕ). is_member d ds) alike.named ∙ e);
      current = λ d e. ap (λ (ds : List ℕ). is_member d ds) (sym alike.named) ∙ s.current d (alike.current ∙ e);
    }

module _ (b : BoardView) (r : ℕ) (granted : ℕ → Option ℕ) (granted_own : (a d : ℕ) → granted a ≡ Some d → IsOf b r d) where
  -- what one message comes to over the two
  alike_each : (limit : ℕ) (f g : FlatListener) (m : MessageView) (last : Bool) (cut : Option ℕ) → FlatAlike (IsOf b r) f g
      → ToldAlike (FlatAlike (IsOf b r)) (talk (flat_listener granted) limit f m last cut) (talk (flat_listener granted) limit g m last cut)
  alike_each limit f g m last cut s = flat_talk-alike (IsOf b r) granted limit f g m last cut (granted_own m.addr) s

  -- all messages of a transfer
  flat_all-alike : (limit : ℕ) (f g : FlatListener) (ms : List MessageView) (i : ℕ) (cuts : ℕ → Option ℕ) (got more : List ℕ) → got ≡ more
      → FlatAlike (IsOf b r) f g
      → AllAlike (FlatAlike (IsOf b r)) (talk_all (flat_listener granted) limit f ms i cuts got)
      (talk_all (flat_listener granted) limit g ms i cuts more)
  flat_all-alike limit f g ms i cuts got more =
      all-alike (flat_listener granted) (flat_listener granted) limit (FlatAlike (IsOf b r)) (λ (m : MessageView). Any m)
      (λ u v m last cut any s. alike_each limit u v m last cut s) f g ms i cuts got more (all-any ms)

  -- so many of them
  pub flat_part-alike : (limit : ℕ) (f g : FlatListener) (ms : List MessageView) (ends : Bool) (i : ℕ) (cuts : ℕ → Option ℕ)
      (got more : List ℕ) → got ≡ more → FlatAlike (IsOf b r) f g
      → AllAlike (FlatAlike (IsOf b r)) (talk_part (flat_listener granted) limit f ms ends i cuts got)
      (talk_part (flat_listener granted) limit g ms ends i cuts more)
  flat_part-alike limit f g [] ends i cuts got more e s = record { bytes = e; end = refl; now = s }
  flat_part-alike limit f g (m ∷ ms) ends i cuts got more e s =
      let t : TalkTold FlatListener = talk (flat_listener granted) limit f m (is_empty ms && ends) (cuts i) in
      let u : TalkTold FlatListener = talk (flat_listener granted) limit g m (is_empty ms && ends) (cuts i) in
      let alike : ToldAlike (FlatAlike (IsOf b r)) t u = alike_each limit f g m (is_empty ms && ends) (cuts i) s in
      let read : with_read got m t ≡ with_read more m u = read-alike m got more t u e alike.bytes in
      cond-all (FlatAlike (IsOf b r)) (is_good t.end) (is_good u.end)
      (talk_part (flat_listener granted) limit t.now ms ends (i + 1) cuts (with_read got m t))
      (record { bytes = with_read got m t; now = t.now; end = t.end })
      (talk_part (flat_listener granted) limit u.now ms ends (i + 1) cuts (with_read more m u))
      (record { bytes = with_read more m u; now = u.now; end = u.end })
      (ap (λ z. is_good z) alike.end)
      (flat_part-alike limit t.now u.now ms ends (i + 1) cuts (with_read got m t) (with_read more m u) read alike.now)
      (record { bytes = read; end = alike.end; now = alike.now })

  -- a device that isn't the root's is left alone
  all_others : (d : ℕ) → (IsOf b r d → ⊥) → (ms : List MessageView)
      → AllByRecursion (λ (m : MessageView). is_it (granted m.addr) d ≡ false) ms
  all_others d other [] = tt
  all_others d other (m ∷ ms) = (not_granted (is_it (granted m.addr) d) refl, all_others d other ms)
    where
      not_granted : (z : Bool) → is_it (granted m.addr) d ≡ z → z ≡ false
      not_granted false e = refl
      not_granted true e = absurd (other (granted_own m.addr d (is_it-some (granted m.addr) d e)))

-- ONE TRANSFER
-- it depends on the devices of its root alone
pub flat-same : (b : BoardView) → IsTree b → (xs ys : List TargetState) (t : TransferView) (cut : Cut)
    → ((d : ℕ) → IsOf b (root_of b t.bus) d → slice_get xs d ≡ slice_get ys d)
    → FlatSame b (root_of b t.bus) (flat b xs t cut) (flat b ys t cut)
flat-same b tree xs ys t cut same = by (barred b t cut)
  where
    own : (a d : ℕ) → granted_on b t.bus t.force a ≡ Some d → IsOf b (root_of b t.bus) d
    own a d e = granted-own b tree t.bus a t.force d e

    by : (o : Option Errno) → FlatSame b (root_of b t.bus) (flat_by b xs t cut o) (flat_by b ys t cut o)
    by (Some e) = record { reply = refl; states = same }
    by None =
        let alike = flat_all-alike b (root_of b t.bus) (granted_on b t.bus t.force) own (block_limit b) (idle xs) (idle ys)
        (messages_of t) 0 (cut_in cut) [] [] refl
        (record { states = same; named = refl; current = refl; own = λ d e. absurd (let z : None ≡ Some d = e in cc) }) in
        record {
          reply = ap (λ z. or_done (errno_of z) t (flat_messages b xs t cut).bytes) alike.end
              ∙ ap (λ (bytes : List ℕ). or_done (errno_of (flat_messages b ys t cut).end) t bytes) alike.bytes;
          states = alike.now.states;
        }

-- and the devices of other roots stay as they are
pub flat-elsewhere : (b : BoardView) → IsTree b → (xs : List TargetState) (t : TransferView) (cut : Cut) (d : ℕ)
    → (IsOf b (root_of b t.bus) d → ⊥)
    → slice_get (flat b xs t cut).states d ≡ slice_get xs d
flat-elsewhere b tree xs t cut d other = by (barred b t cut)
  where
    by : (o : Option Errno) → slice_get (flat_by b xs t cut o).states d ≡ slice_get xs d
    by (Some e) = refl
    by None =
        (flat_all-unnamed (granted_on b t.bus t.force) (block_limit b) d (slice_get xs d) (idle xs) (messages_of t) 0 (cut_in cut) []
        (all_others b (root_of b t.bus) (granted_on b t.bus t.force) (λ a k e. granted-own b tree t.bus a t.force k e) d other
        (messages_of t)) (refl, refl, refl)).2
