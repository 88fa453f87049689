-- What the answers of the functions stand for, in the words of the definitions. Assumes nothing:
-- these are definitions.
use Rattle.std.specs.Prelude.{ℕ, Option, Some, None, Result, Ok, Err}
use Rattle.std.specs.Option.{is_some, unwrap_or}
use Rattle.refusals.specs.declared.Refusal.{Refusal}
use Rattle.refusals.specs.Refusal.{number_of, code_of}
use Rattle.atoms.specs.declared as declared
use Rattle.atoms.specs.declared.Atom.{Atom}
use Rattle.atoms.specs.declared.Atom.TheVariants.{Byte}
use Rattle.atoms.specs.Number.{Numeral}
use Rattle.atoms.specs.Escape.{Part}

-- the number of a fault, where 0 is none
abbrev pub fault : Option Refusal → ℕ
fault None = 0
fault (Some r) = number_of r

-- a number; its value is 0 where it has no digit
abbrev pub numeral : declared.Numeral.Numeral → Numeral
numeral n = record { value = unwrap_or n.value 0; some = is_some n.value; size = n.size }

-- what a part stands for: byte 0 where it is faulty
abbrev pub atom_of : {F : Type 0} → Result Atom F → Atom
atom_of (Ok a) = a
atom_of (Err r) = Byte 0

-- the fault of a part by the numbers of faults, 0 where it is sound
abbrev pub code_by : {F : Type 0} → (F → ℕ) → Result Atom F → ℕ
code_by number (Ok a) = 0
code_by number (Err f) = number f

abbrev pub part_by : {F : Type 0} → (F → ℕ) → declared.Part.Part F → Part
part_by number p = record { fault = code_by number p.atom; size = p.size; atom = atom_of p.atom }

abbrev pub part : declared.Part.Part Refusal → Part
part p = record { fault = code_of p.atom; size = p.size; atom = atom_of p.atom }
