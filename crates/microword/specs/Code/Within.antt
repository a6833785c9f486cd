-- What the code asks of the fields that it works on: each is below its bound, as those of a word are.
use Rattle.std.specs.Prelude.{◌^◌, ◌<◌}
use Rattle.microword.specs.Microword.{Layout, narrow}
use Rattle.microword.specs.declared.Fields.{Fields}

pub record WithinBy (l : Layout) (m : Fields) : Type 0 where
  pub a : m.a < 2 ^ l.register_bits
  pub b : m.b < 2 ^ l.register_bits
  pub s : m.s < 2 ^ l.register_bits
  pub hs : m.hs < 2
  pub f : m.f < 8
  pub rd : m.rd < 2
  pub wr : m.wr < 2
  pub sq : m.sq < 4
  pub end : m.end < 2 ^ l.line_bits

abbrev pub Within : Fields → Type 0
Within m = WithinBy narrow m
