-- What the code's @ and offset mean.
use Rattle.records.specs.Time as time
use Rattle.page.specs.Answers.{option_of}
use Rattle.records.specs.Answers.{at_modifier_of, offset_of}
use Rattle.text.specs.declared.Times.{Times}

abbrev pub times_of : Times → time.Times
times_of t = record { at = option_of at_modifier_of t.at; offset = option_of offset_of t.offset }
