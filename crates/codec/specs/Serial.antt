-- What a reader and a writer reply, whatever the type (docs/FORMAT.md, "The law of written values"). Assumes nothing.
--   next o f            o was read, and f reads on behind it
--   placed len at n     n bytes from `at` in a buffer of `len`: where they end, or that it is too short
use Rattle.std.specs.Prelude.{ℕ, ◌+◌, if◌then◌else◌, List, Some, None, Ok, Err, Option, Result, nat_le}
use Rattle.codec.specs.declared.error.CodecError.{CodecError}
use Rattle.codec.specs.declared.error.CodecError.TheVariants.{TooShort}

abbrev pub next : {A B : Type 0} → Option (A × List ℕ) → (A → List ℕ → Option (B × List ℕ)) → Option (B × List ℕ)
next None f = None
next (Some p) f = f p.0 p.1

abbrev pub placed : ℕ → ℕ → ℕ → Result ℕ CodecError
placed len at n = if nat_le (at + n) len then Ok (at + n) else Err TooShort
