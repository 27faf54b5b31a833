use Rattle.std.specs.Prelude.{ℕ}
use Rattle.i2c_base.specs.declared.errno.Errno.{Errno}
use Rattle.i2c_base.specs.declared.errno.Errno.TheVariants.{Eio, Enxio, Ebadf, Ebusy, Enodev, Einval, Eproto, Ebadmsg, Eopnotsupp, Etimedout, Eremoteio}

-- Linux's number of each error (errno.h)
abbrev pub number_of : Errno → ℕ
number_of Eio = 5
number_of Enxio = 6
number_of Ebadf = 9
number_of Ebusy = 16
number_of Enodev = 19
number_of Einval = 22
number_of Eproto = 71
number_of Ebadmsg = 74
number_of Eopnotsupp = 95
number_of Etimedout = 110
number_of Eremoteio = 121
