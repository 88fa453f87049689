-- What the answer for a class stands for, in the words of the definitions. Assumes nothing: these
-- are definitions.
use Rattle.std.specs.Prelude.{Result, Ok, Err}
use Rattle.refusals.specs.declared.Fault.{Fault}
use Rattle.refusals.specs.Refusal.{number_of}
use Rattle.classes.specs.declared as declared
use Rattle.classes.specs.Class.{Class, refused_class, closed_class}

abbrev pub class : Result declared.Class.Class Fault → Class
class (Ok c) = closed_class c.place c.set
class (Err f) = refused_class (number_of f.refusal) f.place
