-- Calls with their replies.
use Rattle.std.specs.Prelude.{List, [], ◌∷◌}
use Rattle.model.specs.declared.calls.Call.{Call}
use Rattle.model.specs.Machine.{Reply}
use Rattle.model.specs.Run.{Entry}

-- each call with its reply, in order
abbrev pub entries : List Call → List Reply → List Entry
entries [] l = []
entries (c ∷ cs) [] = []
entries (c ∷ cs) (a ∷ l) = record { call = c; answer = a } ∷ entries cs l
