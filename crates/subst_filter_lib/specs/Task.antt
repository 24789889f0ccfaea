-- The tasks that the program's arguments state, the sources that a task accepts, and a task's variables.
use Rattle.std.specs.Prelude.{◌==◌, ⊤, ◌&&◌, List, [], ◌∷◌, ℕ, drop, length, codes, if◌then◌else◌, Option, Some, None, String, string_bytes}
use Rattle.std.specs.Global.{Global}
use Rattle.std.specs.Str.{bytes_eq, IsUtf8}
use Rattle.subst.specs.Calls.Maps.{first_value}
use Rattle.subst.specs.Language.LookUp.{LookUp}
use Rattle.subst_filter_lib.specs.Arguments.{are_pairs, last_value}
use Rattle.subst_filter_lib.specs.declared.task.Task.{Task}
use Rattle.subst_filter_lib.specs.declared.task.Task.TheVariants.{Bytes, Text, Environment}

-- The task that the arguments state, if they are right: after `bytes` or `text` all other arguments have the
-- form NAME=VALUE, and after `env` there are none.
abbrev pub task_of : List (String Global) → Option Task
task_of [] = None
task_of (first ∷ rest) =
    if bytes_eq (string_bytes first) (codes "bytes") && are_pairs rest then Some Bytes
    else if bytes_eq (string_bytes first) (codes "text") && are_pairs rest then Some Text
    else if bytes_eq (string_bytes first) (codes "env") && (length rest == 0) then Some Environment
    else None

-- the task accepts this source: `text` and `env` accept only texts
abbrev pub Accepts : Task → List ℕ → Type 0
Accepts Bytes source = ⊤
Accepts Text source = IsUtf8 source
Accepts Environment source = IsUtf8 source

-- the value of each name for a task: `Bytes` and `Text` take it from the arguments after the first,
-- `Environment` from the environment's `pairs`
abbrev pub look_up_of_task : Task → List (String Global) → List (String Global × String Global) → LookUp
look_up_of_task Bytes arguments pairs = last_value (drop 1 arguments)
look_up_of_task Text arguments pairs = last_value (drop 1 arguments)
look_up_of_task Environment arguments pairs = first_value pairs
