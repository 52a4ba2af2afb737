-- Roles and last parts as the code has them, as the machine's.
use Rattle.qml_syntax.specs.Ends.{Last, bare, shut, callable}
use Rattle.js_machine.specs.declared.role.Role as code
use Rattle.js_machine.specs.declared.role.Role.TheVariants as r
use Rattle.js_machine.specs.declared.ending.Last as last_code
use Rattle.js_machine.specs.declared.ending.Last.TheVariants as l
use Rattle.js_machine.specs.Machine.{Role, joins, updates, bumps, question, dot, calls, indexes, colon, closes, shuts, comma, semicolon, brace, other}

abbrev pub that_role : code.Role → Role
that_role (r.Joins op) = joins op
that_role (r.Updates i) = updates i
that_role (r.Bumps i) = bumps i
that_role r.Question = question
that_role r.Dot = dot
that_role r.Calls = calls
that_role r.Indexes = indexes
that_role r.Colon = colon
that_role r.Closes = closes
that_role r.Shuts = shuts
that_role r.Comma = comma
that_role r.Semicolon = semicolon
that_role r.Brace = brace
that_role r.Other = other

abbrev pub that_last : last_code.Last → Last
that_last l.Bare = bare
that_last l.Shut = shut
that_last l.Callable = callable
