-- A transfer to paired addresses does the same on the board as written and, translated, on the lowered board: each address leads to the
-- same device, the way is the same, and so is what is refused. It leaves each device that it doesn't name. The inductions go over
-- the messages.
use Rattle.addr_atr.proofs.Cited.{◌≡◌, ℕ, ◌+◌, Bool, true, false, cond, not, ◌&&◌, ◌||◌, List, [], ◌∷◌, Option, Some, None, eqb, ltb, refl}
use Rattle.addr_atr.proofs.Cited.{sym, ◌∙◌, ap, arith, map, take, drop, slice_get, unwrap_or, All, list_any, option_map, eqb-true, lt-ltb}
use Rattle.addr_atr.proofs.Cited.{All-head, All-tail, Cut, Reply, Grant, Way, Msg, BoardView, DeviceView, TransferView, AllTold, TalkTold}
use Rattle.addr_atr.proofs.Cited.{talk, talk_all, is_good, is_empty, is_it, with_read, FlatListener, FlatTold, flat, flat_listener}
use Rattle.addr_atr.proofs.Cited.{block_limit, grant_of, way_of, MessageView, IsPlainBoard, MeetsRules, TargetState, buses, root_of, IsTree}
use Rattle.addr_atr.proofs.Cited.{tree_of, alias_of, readdressed, redirected, TranslatorView, Route, route_of, moved, lowered_device}
use Rattle.addr_atr.proofs.Cited.{lowered, sent_by, translated, is_paired, IsMap}
use Rattle.i2c_base.specs.declared.errno.Errno.{Errno}
use Rattle.i2c_base.specs.declared.errno.Errno.TheVariants as errno
use Rattle.i2c_base.specs.declared.reply.Reply.TheVariants as reply
use Rattle.i2c_base.specs.declared.tree.Grant.TheVariants as grant
use Rattle.i2c_base.specs.Transfer.{written_of}
use Rattle.i2c_base.proofs.ListLemmas.{map_at}
use Rattle.i2c_spec.specs.Flat.{flat_by, flat_told, flat_messages, idle, granted_on, cut_in, is_any_busy, is_plain, is_smbus_only, refusal}
use Rattle.i2c_spec.specs.Flat.{barred, first_of, is_way_cut, way_errno, or_done, errno_of}
use Rattle.i2c_spec.specs.Grant.{is_busy, named_of}
use Rattle.i2c_spec.specs.Messages.{messages_from, messages_of, message_with}
use Rattle.i2c_spec.specs.Tree.{of_device}
use Rattle.bus_laws.specs.Alike.{IsUnnamed}
use Rattle.bus_laws.proofs.device.Stay.{talk-unnamed}
use Rattle.addr_atr.specs.Lowering.{IsPaired}
use Rattle.addr_atr.proofs.CostLemmas.{readdressed-reads}
use Rattle.addr_atr.proofs.OwnLemmas.{own-grant}
use Rattle.addr_atr.proofs.RenameLemmas.{renamed, AreGrantedAlike, all-renamed}
use Rattle.addr_atr.proofs.RouteLemmas.{IsRoute, IsOf, route-is, route-root, route-way, route-before, paired-device, lowered-plain}

-- MESSAGES with other addresses
readdressed-messages : (f : ℕ → ℕ) (ms : List Msg) (out : List ℕ)
    → messages_from (map (readdressed f) ms) out ≡ renamed f (messages_from ms out)
readdressed-messages f [] out = refl
readdressed-messages f (m ∷ ms) out =
    ap (λ (rest : List MessageView). message_with (readdressed f m) (take (written_of m) out) ∷ rest)
    (readdressed-messages f ms (drop (written_of m) out))

alike_busy : (f : ℕ → ℕ) (p q : ℕ → Bool) (ms : List Msg) → All (λ m. q (f m.addr) ≡ p m.addr) ms
    → list_any (λ (m : Msg). q m.addr) (map (readdressed f) ms) ≡ list_any (λ (m : Msg). p m.addr) ms
alike_busy f p q [] all = refl
alike_busy f p q (m ∷ ms) all =
    ap (λ (t : Bool). t || list_any (λ (n : Msg). q n.addr) (map (readdressed f) ms)) (All-head (λ m. q (f m.addr) ≡ p m.addr) m ms all)
    ∙ ap (λ (t : Bool). p m.addr || t) (alike_busy f p q ms (All-tail (λ m. q (f m.addr) ≡ p m.addr) m ms all))

alike_granted : (g h : ℕ → Option ℕ) (f : ℕ → ℕ) (ms : List Msg) (out : List ℕ) → All (λ m. g m.addr ≡ h (f m.addr)) ms
    → AreGrantedAlike g h f (messages_from ms out)
alike_granted g h f [] out all = tt
alike_granted g h f (m ∷ ms) out all = (
  All-head (λ m. g m.addr ≡ h (f m.addr)) m ms all,
  alike_granted g h f ms (drop (written_of m) out) (All-tail (λ m. g m.addr ≡ h (f m.addr)) m ms all),
)

-- TWO BOARDS AND TWO TRANSFERS that are alike: the flat world does the same
module _ (b c : BoardView) (t : TransferView) (bus : ℕ) (f : ℕ → ℕ)
    (version : block_limit c ≡ block_limit b) (here : ltb t.bus (buses b) ≡ true) (there : ltb bus (buses c) ≡ true)
    (offers : is_smbus_only c (root_of c bus) ≡ is_smbus_only b (root_of b t.bus)) (ways : way_of c bus ≡ way_of b t.bus)
    (grants : All (λ m. grant_of c bus (f m.addr) t.force ≡ grant_of b t.bus m.addr t.force) t.msgs) where
  abbrev u : TransferView
  u = redirected t bus f

  same_busy : is_any_busy c u ≡ is_any_busy b t
  same_busy =
      alike_busy f (λ a. is_busy (grant_of b t.bus a t.force)) (λ a. is_busy (grant_of c bus a t.force)) t.msgs
      (λ k d low. ap is_busy (grants k d low))

  same_refusal : refusal c u ≡ refusal b t
  same_refusal =
      ap (λ (y : Bool). cond (not y) (Some errno.Enodev)
      (cond (is_plain t.kind && is_smbus_only c (root_of c bus)) (Some errno.Eopnotsupp) (cond (is_any_busy c u) (Some errno.Ebusy) None)))
      there
      ∙ ap (λ (y : Bool). cond (is_plain t.kind && y) (Some errno.Eopnotsupp) (cond (is_any_busy c u) (Some errno.Ebusy) None)) offers
      ∙ ap (λ (y : Bool). cond (is_plain t.kind && is_smbus_only b (root_of b t.bus)) (Some errno.Eopnotsupp)
      (cond y (Some errno.Ebusy) None)) same_busy
      ∙ sym (ap (λ (y : Bool). cond (not y) (Some errno.Enodev)
      (cond (is_plain t.kind && is_smbus_only b (root_of b t.bus)) (Some errno.Eopnotsupp) (cond (is_any_busy b t)
      (Some errno.Ebusy) None))) here)

  same_barred : (cut : Cut) → barred c u cut ≡ barred b t cut
  same_barred cut =
      ap (λ (o : Option Errno). first_of o (first_of (cond (is_way_cut cut) (Some errno.Eremoteio) None) (way_errno (way_of c bus))))
      same_refusal
      ∙ ap (λ (w : Way). first_of (refusal b t) (first_of (cond (is_way_cut cut) (Some errno.Eremoteio) None) (way_errno w))) ways

  same_messages : (xs : List TargetState) (cut : Cut) → flat_messages c xs u cut ≡ flat_messages b xs t cut
  same_messages xs cut =
      ap (λ (n : ℕ). talk_all (flat_listener (granted_on c bus t.force)) n (idle xs) (messages_of u) 0 (cut_in cut) []) version
      ∙ ap (λ (ms : List MessageView). talk_all (flat_listener (granted_on c bus t.force)) (block_limit b) (idle xs) ms 0 (cut_in cut) [])
      (readdressed-messages f t.msgs t.out)
      ∙ sym (all-renamed (granted_on b t.bus t.force) (granted_on c bus t.force) f (block_limit b) (idle xs) (messages_of t) 0
      (cut_in cut) []
      (alike_granted (granted_on b t.bus t.force) (granted_on c bus t.force) f t.msgs t.out
      (λ k d low. ap named_of (sym (grants k d low)))))

  same_reply : (got : List ℕ) (o : Option Errno) → or_done o u got ≡ or_done o t got
  same_reply got None = ap (λ (reads : Bool). cond reads (reply.Read got) reply.Done) (readdressed-reads f t.msgs)
  same_reply got (Some e) = refl

  abbrev told_with : AllTold FlatListener → Reply → FlatTold
  told_with all y = record { reply = y; states = all.now.states }

  same_by : (xs : List TargetState) (cut : Cut) (o : Option Errno) → flat_by c xs u cut o ≡ flat_by b xs t cut o
  same_by xs cut (Some e) = refl
  same_by xs cut None =
      ap (λ (all : AllTold FlatListener). flat_told u all) (same_messages xs cut)
      ∙ ap (told_with (flat_messages b xs t cut)) (same_reply (flat_messages b xs t cut).bytes (errno_of (flat_messages b xs t cut).end))

  pub flat-alike : (xs : List TargetState) (cut : Cut) → flat c xs u cut ≡ flat b xs t cut
  flat-alike xs cut = ap (λ (o : Option Errno). flat_by c xs u cut o) (same_barred cut) ∙ same_by xs cut (barred b t cut)

-- WHAT IT LEAVES: a device that none of its addresses is granted
module _ (b : BoardView) (t : TransferView) (d : ℕ) where
  talk_leaves : (o : Option TargetState) (limit : ℕ) (f : FlatListener) (ms : List Msg) (out : List ℕ) (i : ℕ) (cuts : ℕ → Option ℕ)
      (got : List ℕ)
      → All (λ m. is_it (granted_on b t.bus t.force m.addr) d ≡ false) ms → IsUnnamed d o f
      → slice_get (talk_all (flat_listener (granted_on b t.bus t.force)) limit f (messages_from ms out) i cuts got).now.states d ≡ o
  talk_leaves o limit f [] out i cuts got all none = none.2
  talk_leaves o limit f (m ∷ ms) out i cuts got all none =
      let g = granted_on b t.bus t.force in
      let n : MessageView = message_with m (take (written_of m) out) in
      let told : TalkTold FlatListener = talk (flat_listener g) limit f n (is_empty (messages_from ms (drop (written_of m) out)))
      (cuts i) in
      let after : IsUnnamed d o told.now =
      talk-unnamed d o g limit f n (is_empty (messages_from ms (drop (written_of m) out))) (cuts i)
      (All-head (λ m. is_it (g m.addr) d ≡ false) m ms all) none in
      elim (is_good told.end)
      as (λ y. slice_get (cond y
      (talk_all (flat_listener g) limit told.now (messages_from ms (drop (written_of m) out)) (i + 1) cuts (with_read got n told))
      (record { bytes = with_read got n told; now = told.now; end = told.end })).now.states d ≡ o) [
        | true ↦ talk_leaves o limit told.now ms (drop (written_of m) out) (i + 1) cuts (with_read got n told)
            (All-tail (λ m. is_it (g m.addr) d ≡ false) m ms all) after
        | false ↦ after.2
      ]

  leaves_by : (xs : List TargetState) (cut : Cut) (o : Option Errno) → All (λ m. is_it (granted_on b t.bus t.force m.addr) d ≡ false) t.msgs
      → slice_get (flat_by b xs t cut o).states d ≡ slice_get xs d
  leaves_by xs cut (Some e) all = refl
  leaves_by xs cut None all = talk_leaves (slice_get xs d) (block_limit b) (idle xs) t.msgs t.out 0 (cut_in cut) [] all (refl, refl, refl)

  pub flat-leaves : (xs : List TargetState) (cut : Cut) → All (λ m. is_it (granted_on b t.bus t.force m.addr) d ≡ false) t.msgs
      → slice_get (flat b xs t cut).states d ≡ slice_get xs d
  flat-leaves xs cut all = leaves_by xs cut (barred b t cut) all

-- A MAP
module _ (b : BoardView) (plain : IsPlainBoard b) (meets : MeetsRules b) (ts : List TranslatorView) (is_map : IsMap b ts)
    (rules : MeetsRules (lowered b ts)) where
  the_tree : IsTree b
  the_tree = tree_of b plain meets

  pub lowered-tree : IsTree (lowered b ts)
  lowered-tree = tree_of (lowered b ts) (lowered-plain b plain the_tree ts is_map) rules

  -- a paired address leads to the same device on both boards, or is busy on both
  pub lowered-grant : (s : ℕ) (r : Route) → route_of b ts s ≡ Some r → (a : ℕ) (force : Bool) → is_paired r.pairs a ≡ true
      → grant_of (lowered b ts) r.bus (alias_of r.pairs a) force ≡ grant_of b s a force
  lowered-grant s r route a force paired =
      let i : IsRoute b ts s r = route-is b ts s r route in
      let x : IsOf b plain the_tree ts is_map s a = paired-device b plain the_tree ts is_map s r i a paired in
      let e : lowered_device b ts x.spec ≡ moved (Some r) x.spec =
      ap (λ (o : Option Route). moved o x.spec) (ap (route_of b ts) x.bus ∙ route) in
      let at : slice_get (lowered b ts).devices x.device ≡ Some (moved (Some r) x.spec) =
      map_at (lowered_device b ts) b.devices x.device x.spec x.here ∙ ap Some e in
      ap (λ (y : ℕ). grant_of (lowered b ts) r.bus (alias_of r.pairs y) force) (sym x.addr)
      ∙ own-grant (lowered b ts) lowered-tree plain.planted x.device (moved (Some r) x.spec) at force
      ∙ sym (own-grant b the_tree plain.planted x.device x.spec x.here force)
      ∙ ap (λ (y : ℕ). grant_of b y x.spec.addr force) x.bus ∙ ap (λ (y : ℕ). grant_of b s y force) x.addr

  -- a transfer on a child bus whose addresses are all paired
  module _ (t : TransferView) (r : Route) (route : route_of b ts t.bus ≡ Some r) (paired : IsPaired r t) where
    is_route : IsRoute b ts t.bus r
    is_route = route-is b ts t.bus r route

    pub same-told : (xs : List TargetState) (cut : Cut) → flat (lowered b ts) xs (translated b ts t) cut ≡ flat b xs t cut
    same-told xs cut =
        ap (λ (o : Option Route). flat (lowered b ts) xs (sent_by o t) cut) route
        ∙ flat-alike b (lowered b ts) t r.bus (alias_of r.pairs) refl (lt-ltb t.bus (buses b) is_route.within)
        (lt-ltb r.bus (buses b) (omega (arith, is_route.within, route-before b plain the_tree ts is_map t.bus r is_route)))
        (ap (λ (n : ℕ). is_smbus_only b n) (route-root b the_tree ts t.bus r is_route))
        (route-way b plain the_tree ts is_map t.bus r is_route)
        (λ k d low. lowered-grant t.bus r route _ t.force (paired k d low)) xs cut

    -- a device on another bus, or none, isn't granted
    unnamed_by : (d : ℕ) (z : Bool) (n : ℕ) → (n ≡ d → ⊥) → is_it (named_of (cond z grant.Busy (grant.Named n))) d ≡ false
    unnamed_by d true n other = refl
    unnamed_by d false n other = by (eqb n d) refl
      where
        by : (y : Bool) → eqb n d ≡ y → eqb n d ≡ false
        by true e = absurd (other (eqb-true n d e))
        by false e = e

    not_granted : (d : ℕ) → (of_device (λ x. Some x.bus) None b d ≡ Some t.bus → ⊥) → (a : ℕ) → is_paired r.pairs a ≡ true
        → is_it (granted_on b t.bus t.force a) d ≡ false
    not_granted d elsewhere a is =
        let x : IsOf b plain the_tree ts is_map t.bus a = paired-device b plain the_tree ts is_map t.bus r is_route a is in
        ap (λ (y : ℕ). is_it (granted_on b t.bus t.force y) d) (sym x.addr)
        ∙ ap (λ (y : ℕ). is_it (granted_on b y t.force x.spec.addr) d) (sym x.bus)
        ∙ ap (λ (g : Grant). is_it (named_of g) d) (own-grant b the_tree plain.planted x.device x.spec x.here t.force)
        ∙ unnamed_by d (not t.force && x.spec.bound) x.device
        (λ e. elsewhere (ap (λ (o : Option DeviceView). unwrap_or (option_map (λ (y : DeviceView). Some y.bus) o) None)
        (ap (λ (k : ℕ). slice_get b.devices k) (sym e) ∙ x.here) ∙ ap Some x.bus))

    pub others-left : (xs : List TargetState) (cut : Cut) (d : ℕ) → (of_device (λ x. Some x.bus) None b d ≡ Some t.bus → ⊥)
        → slice_get (flat (lowered b ts) xs (translated b ts t) cut).states d ≡ slice_get xs d
    others-left xs cut d elsewhere =
        ap (λ (told : FlatTold). slice_get told.states d) (same-told xs cut)
        ∙ flat-leaves b t d xs cut (λ k m low. not_granted d elsewhere _ (paired k m low))
