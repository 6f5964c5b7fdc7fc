-- Values with several owners.
use Rattle.std.specs.declared.rc.Rc.{Rc}
use Rattle.std.specs.declared.alloc.Global.{Global}

-- the value that is owned
abbrev pub shared : {X : Type 0} → Rc X Global → X
shared r = r.value
