-- The bytes of values.
use Rattle.std.specs.Prelude.{◌≡◌, ℕ, ◌^◌, ◌<◌, ◌⊎◌, Bool, if◌then◌else◌, List, ◌++◌, length, codes}
use Rattle.std.specs.List.{flat_map}
use Rattle.byteorder.specs.Endian.{big_bytes, big_number}
use Rattle.sha2.specs.Sha256.{sha256}
use Rattle.inc_base.specs.Texts.{IsName}
use Rattle.inc_base.specs.declared.job.Compiler.{Compiler}
use Rattle.inc_base.specs.declared.job.Job.{Job}
use Rattle.inc_wire.specs.declared.header.Header.{Header}

-- numbers have 1, 2, 4 or 8 bytes
abbrev pub IsWidth : ℕ → Type 0
IsWidth width = (width ≡ 1) ⊎ (width ≡ 2) ⊎ (width ≡ 4) ⊎ (width ≡ 8)

-- a number in `width` bytes, the highest first
unfoldable pub number_form : ℕ → ℕ → List ℕ
number_form width v = big_bytes width v

-- a text: its length in four bytes, and its bytes
unfoldable pub text_form : List ℕ → List ℕ
text_form text = number_form 4 (length text) ++ text

-- a truth value: 0 or 1 in one byte
abbrev pub flag_of : Bool → ℕ
flag_of b = if b then 1 else 0

abbrev pub flag_form : Bool → List ℕ
flag_form b = number_form 1 (flag_of b)

-- a list: how many elements, in four bytes, and the form of each
unfoldable pub list_form : {X : Type 0} → (X → List ℕ) → List X → List ℕ
list_form form xs = number_form 4 (length xs) ++ flat_map form xs

-- the fields of a header: `INCC`, the format in two bytes, the compiler's version in four and its level in
-- one, and the name
unfoldable pub fields_form : ℕ → Compiler → List ℕ → List ℕ
fields_form format compiler name =
    codes "INCC" ++ number_form 2 format ++ number_form 4 compiler.version ++ number_form 1 compiler.level ++ text_form name

-- a header has its format, its compiler and the name of its crate
abbrev pub header_form : Header → List ℕ
header_form h = fields_form h.format h.compiler h.krate

-- the parts of a header are in their ranges
pub record IsHeader (h : Header) : Type 0 where
  pub format : h.format < 2 ^ 16
  pub version : h.compiler.version < 2 ^ 32
  pub level : h.compiler.level < 2
  pub krate : IsName h.krate

-- a front of the bytes is a text
abbrev pub BeginsWithText : List ℕ → Type 0
BeginsWithText b = (text : List ℕ) × (rest : List ℕ) × (length text < 2 ^ 32) × (b ≡ text_form text ++ rest)

-- a front of the bytes is a header
abbrev pub BeginsWithHeader : List ℕ → Type 0
BeginsWithHeader b = (h : Header) × (rest : List ℕ) × IsHeader h × (b ≡ header_form h ++ rest)

-- the header of a job's files, in a format
abbrev pub header_of : ℕ → Job → Header
header_of format job = record { format = format; compiler = job.compiler; krate = job.krate }

-- the hash of a job: the number in the first 16 bytes, the highest first, of the SHA-256 of its header of format 1 and its text
unfoldable pub job_hash_of : Job → ℕ
job_hash_of job = big_number 16 (sha256 (header_form (header_of 1 job) ++ job.text))
