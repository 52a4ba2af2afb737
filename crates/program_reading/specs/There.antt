-- Whether a file is there, by what it is.
use Rattle.std.specs.Prelude.{Bool, true, false}
use Rattle.file_sources.specs.declared.content.Content.{Content}
use Rattle.file_sources.specs.declared.content.Content.TheVariants as content

abbrev pub is_there : Content → Bool
is_there content.Missing = false
is_there content.TooLarge = true
is_there (content.Unread at why) = true
is_there (content.Document t) = true
is_there (content.Script t) = true
