-- Registers and destinations are the same of a token as of its number.
use mathlib.Core.Path.{◌≡◌, refl}
use Rattle.token.specs.Tokens.{Token}
use Rattle.text.specs.Text.{bytes}
use Rattle.token.proofs.Names.{position_known}
use Rattle.part.specs.Grammar.{registers, destination, register_named}
use Rattle.token.specs.Code.Next.{packed}
use Rattle.token.proofs.Bytes.{Bytes}
use Rattle.token.proofs.Packed.{known}
use Rattle.part.specs.Code.Stage.{register_of, destination_of}

pub register_of_lem : (u : Token) → Bytes u → register_of (packed u) ≡ register_named u
unfolding register_of register_named
register_of_lem u b = position_known u b registers refl

pub destination_of_lem : (u : Token) → Bytes u → destination_of (packed u) ≡ destination u
unfolding destination_of destination
destination_of_lem u b = rw (register_of_lem u b, known u (bytes "alu") b refl) refl
