-- A transfer as a whole is one of the flat world.
use Rattle.flat_world.proofs.Cited.{◌≡◌, ℕ, Bool, List, [], Option, Some, None, sym, ap, ◌∙◌, End, BoardView, talk_all, FlatListener}
use Rattle.flat_world.proofs.Cited.{barred, block_limit, idle, granted_on, cut_in, TargetState, once_listener, all_with}
use Rattle.i2c_base.specs.declared.errno.Errno.{Errno}
use Rattle.i2c_base.specs.declared.reply.Reply.{Reply}
use Rattle.i2c_base.specs.declared.reply.Reply.TheVariants as reply
use Rattle.i2c_base.specs.declared.reply.Cut.{Cut}
use Rattle.i2c_base.specs.Transfer.{TransferView}
use Rattle.i2c_spec.specs.Flat.{FlatTold, flat, flat_by, flat_told, errno_of, or_done}
use Rattle.i2c_spec.specs.Messages.{messages_of}
use Rattle.flat_world.specs.Worlds.{SiteView}
use Rattle.flat_world.proofs.SendingLemmas.{talk_all-once}

module _ (b : BoardView) (states : List TargetState) (t : TransferView) (cut : Cut) where
  pub refused : (o : Option Errno) (e : Errno) → o ≡ barred b t cut → o ≡ Some e
      → ◌≡◌ {A = FlatTold} (record { reply = reply.Err e; states = states }) (flat b states t cut)
  refused o e is some = ap (flat_by b states t cut) (sym some ∙ is)

  pub replied : (o : Option Errno) (site : SiteView) (f : FlatListener) (got : List ℕ) (now : FlatListener) (e : End) (r : Reply)
      → o ≡ barred b t cut → o ≡ None → site ≡ record { board = b; bus = t.bus; force = t.force } → f ≡ idle states
      → all_with got now e ≡ talk_all (once_listener (granted_on site.board site.bus site.force)) (block_limit site.board) f
      (messages_of t) 0 (cut_in cut) []
      → r ≡ or_done (errno_of e) t got
      → ◌≡◌ {A = FlatTold} (record { reply = r; states = now.states }) (flat b states t cut)
  replied o site f got now e r is none there begun told said =
      let ms = messages_of t in
      ap (λ (x : Reply). record { reply = x; states = now.states }) said
      ∙ ap (flat_told t)
      (told
      ∙ ap (λ (s : SiteView). talk_all (once_listener (granted_on s.board s.bus s.force)) (block_limit s.board) f ms 0 (cut_in cut) [])
      there
      ∙ ap (λ (g : FlatListener). talk_all (once_listener (granted_on b t.bus t.force)) (block_limit b) g ms 0 (cut_in cut) []) begun
      ∙ talk_all-once (granted_on b t.bus t.force) (block_limit b) (idle states) ms 0 (cut_in cut) [])
      ∙ ap (flat_by b states t cut) (sym none ∙ is)

pub same_site : (b d : BoardView) (m n : ℕ) (p q : Bool) → b ≡ d → m ≡ n → p ≡ q
    → ◌≡◌ {A = SiteView} (record { board = b; bus = m; force = p }) (record { board = d; bus = n; force = q })
same_site b d m n p q e f g =
    ap (λ (x : BoardView). record { board = x; bus = m; force = p }) e
    ∙ ap (λ (k : ℕ). record { board = d; bus = k; force = p }) f
    ∙ ap (λ (h : Bool). record { board = d; bus = n; force = h }) g
