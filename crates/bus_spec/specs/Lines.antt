-- The line of a journal's entry. Numbers are decimal, bytes two digits, and one space stands between two parts.
use Rattle.std.specs.Prelude.{ℕ, ◌+◌, ◌/◌, ◌%◌, nat_lt, Bool, true, false, List, [], ◌∷◌, ◌++◌, Option, Some, None, if◌then◌else◌, codes}
use Rattle.std.specs.List.{flat_map}
use Rattle.std.specs.Fmt.{decimal}
use Rattle.i2c_base.specs.declared.ids.LockId.{LockId}
use Rattle.i2c_base.specs.declared.ids.LockId.TheVariants as lock
use Rattle.i2c_base.specs.declared.ids.Node.{Node}
use Rattle.i2c_base.specs.declared.ids.Node.TheVariants as node
use Rattle.i2c_base.specs.declared.errno.Errno.{Errno}
use Rattle.i2c_base.specs.declared.errno.Errno.TheVariants.{Eio, Enxio, Ebadf, Ebusy, Enodev, Einval, Eproto, Ebadmsg, Eopnotsupp, Etimedout, Eremoteio}
use Rattle.i2c_base.specs.declared.reply.Reply.{Reply}
use Rattle.i2c_base.specs.declared.reply.Reply.TheVariants as reply
use Rattle.i2c_base.specs.declared.reply.Cut.{Cut}
use Rattle.i2c_base.specs.declared.reply.Cut.TheVariants as cut
use Rattle.i2c_base.specs.declared.entry.Purpose.{Purpose}
use Rattle.i2c_base.specs.declared.entry.Purpose.TheVariants as purpose
use Rattle.i2c_base.specs.declared.entry.End.{End}
use Rattle.i2c_base.specs.declared.entry.End.TheVariants as end
use Rattle.i2c_base.specs.declared.entry.Entry.{Entry}
use Rattle.i2c_base.specs.declared.entry.Entry.TheVariants as entry

-- a digit of 0 to 15, and a byte as two
abbrev pub hex_digit : ℕ → ℕ
hex_digit n = if nat_lt n 10 then 48 + n else 87 + n

abbrev pub two_digits : ℕ → List ℕ
two_digits byte = hex_digit (byte / 16) ∷ hex_digit (byte % 16) ∷ []

abbrev pub spaced_digits : ℕ → List ℕ
spaced_digits byte = 32 ∷ two_digits byte

-- bytes with a space before each, and with a space between each two
abbrev pub spaced : List ℕ → List ℕ
spaced bytes = flat_map spaced_digits bytes

abbrev pub joined : List ℕ → List ℕ
joined [] = []
joined (byte ∷ bytes) = two_digits byte ++ spaced bytes

abbrev pub lock_text : LockId → List ℕ
lock_text (lock.Bus root) = codes "buslock " ++ decimal root
lock_text (lock.Mux bus) = codes "muxlock " ++ decimal bus

abbrev pub purpose_text : Purpose → List ℕ
purpose_text purpose.Call = codes "call"
purpose_text (purpose.Control mux) = codes "mux " ++ decimal mux

abbrev pub direction_text : Bool → List ℕ
direction_text false = codes "w"
direction_text true = codes "r"

abbrev pub node_text : Node → List ℕ
node_text (node.Device d) = codes "d" ++ decimal d
node_text (node.Chip m) = codes "m" ++ decimal m

abbrev pub heard_text : Option Node → List ℕ
heard_text None = codes "none"
heard_text (Some n) = node_text n

abbrev pub end_text : End → List ℕ
end_text end.Ok = codes "ok"
end_text end.Nack = codes "nack"
end_text end.Slow = codes "slow"
end_text end.Refused = codes "refused"
end_text end.Proto = codes "proto"
end_text (end.Cut calls) = codes "cut " ++ decimal calls

abbrev pub level_end : Bool → List ℕ
level_end false = codes "ok"
level_end true = codes "cut"

-- the names of fault-codes in Linux's documentation
abbrev pub errno_text : Errno → List ℕ
errno_text Eio = codes "EIO"
errno_text Enxio = codes "ENXIO"
errno_text Ebadf = codes "EBADF"
errno_text Ebusy = codes "EBUSY"
errno_text Enodev = codes "ENODEV"
errno_text Einval = codes "EINVAL"
errno_text Eproto = codes "EPROTO"
errno_text Ebadmsg = codes "EBADMSG"
errno_text Eopnotsupp = codes "EOPNOTSUPP"
errno_text Etimedout = codes "ETIMEDOUT"
errno_text Eremoteio = codes "EREMOTEIO"

abbrev pub reply_text : Reply → List ℕ
reply_text reply.Done = codes "done"
reply_text (reply.Read bytes) = codes "read" ++ spaced bytes
reply_text (reply.Err errno) = errno_text errno

-- where a failed call on the port cut the transfer off; nothing where none did
abbrev pub cut_text : Cut → List ℕ
cut_text cut.No = []
cut_text cut.Way = codes " cut way"
cut_text (cut.At msg call) = codes " cut " ++ (decimal msg ++ (codes "." ++ decimal call))

-- the parts of a message's line, and of a line change's
abbrev pub place_text : ℕ → ℕ → List ℕ
place_text caller bus = (codes "msg " ++ (decimal caller ++ codes " bus ")) ++ (decimal bus ++ codes " ")

abbrev pub part_text : Purpose → ℕ → ℕ → List ℕ
part_text purpose part parts = purpose_text purpose ++ (codes " " ++ (decimal part ++ (codes "/" ++ (decimal parts ++ codes " "))))

abbrev pub data_text : ℕ → Bool → List ℕ → List ℕ
data_text addr reading bytes = direction_text reading ++ (codes " 0x" ++ (two_digits addr ++ (codes " [" ++ (joined bytes ++ codes "] "))))

abbrev pub result_text : Option Node → End → List ℕ
result_text heard end = codes "heard " ++ (heard_text heard ++ (codes " " ++ end_text end))

abbrev pub level_text : ℕ → ℕ → Bool → List ℕ
level_text mux level failed = decimal mux ++ (codes " level " ++ (decimal level ++ (codes " " ++ level_end failed)))

-- the line of an entry, without its end
abbrev pub entry_line : Entry → List ℕ
entry_line (entry.Take caller lock) = codes "take " ++ (decimal caller ++ (codes " " ++ lock_text lock))
entry_line (entry.Free caller lock) = codes "free " ++ (decimal caller ++ (codes " " ++ lock_text lock))
entry_line (entry.Message caller bus purpose part parts addr reading bytes heard end) =
    place_text caller bus ++ (part_text purpose part parts ++ (data_text addr reading bytes ++ result_text heard end))
entry_line (entry.Line caller mux level failed) = codes "line " ++ (decimal caller ++ (codes " mux " ++ level_text mux level failed))
entry_line (entry.Settle caller reply cut) = codes "settle " ++ (decimal caller ++ (codes " " ++ (reply_text reply ++ cut_text cut)))
