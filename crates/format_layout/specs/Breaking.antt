-- Where a line ends in a group that breaks.
use Rattle.std.specs.Prelude.{Bool, true, false}
use Rattle.format_layout.specs.declared.slot.Separator.{Separator}
use Rattle.format_layout.specs.declared.slot.Separator.TheVariants.{Nothing, Space, SoftNothing, SoftSpace, Comma}
use Rattle.format_layout.specs.declared.slot.Separator.TheVariants.{BlankComma, FirstSign, FirstMember, NoSign, Line}
use Rattle.format_layout.specs.declared.slot.Separator.TheVariants.{BlankLine, Written}

-- A line ends at each comma, at each soft place, and where a line always ends.
abbrev pub ends_line : Separator → Bool
ends_line Nothing = false
ends_line Space = false
ends_line NoSign = false
ends_line Written = false
ends_line SoftNothing = true
ends_line SoftSpace = true
ends_line Comma = true
ends_line BlankComma = true
ends_line FirstSign = true
ends_line FirstMember = true
ends_line Line = true
ends_line BlankLine = true
