-- What linking gives.
use Rattle.std.specs.Prelude.{◌≡◌, ℕ, List, codes, Result, Ok, Err}
use Rattle.std.specs.Option.{option_map_or}
use Rattle.rs_object.specs.declared.object.Func.{Func}
use Rattle.rs_link.specs.Symbols.{number_of, first_twice, first_undefined}
use Rattle.rs_link.specs.Image.{image_form}
use Rattle.rs_link.specs.declared.fault.LinkFault.{LinkFault}
use Rattle.rs_link.specs.declared.fault.LinkFault.TheVariants.{Undefined, Twice, Memory}

-- the first symbol that two functions have, else the first that a relocation names and none has, else `main` where none
-- has it, else the image
abbrev pub linked : List Func → Result (List ℕ) LinkFault
linked fs =
    option_map_or (λ s. Err (Twice s)) (first_twice fs)
    (option_map_or (λ s. Err (Undefined s)) (first_undefined fs fs)
    (option_map_or (λ main. Ok (image_form main fs)) (number_of fs (codes "main")) (Err (Undefined (codes "main")))))

-- a call answered just that, or want of memory
abbrev pub Links : List Func → Result (List ℕ) LinkFault → Type 0
Links fs (Ok b) = linked fs ≡ Ok b
Links fs (Err (Undefined s)) = linked fs ≡ Err (Undefined s)
Links fs (Err (Twice s)) = linked fs ≡ Err (Twice s)
Links fs (Err Memory) = Unit {0}
