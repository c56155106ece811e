-- The worked examples in one table, and the theorem that they stand. Bytes are written in decimal. Assumes nothing.
use Rattle.std.specs.Prelude.{ℕ, true, false, List, [], ◌∷◌, ◌++◌, take, drop, pos, negsuc, slice_set}
use Rattle.std.specs.List.{AllByRecursion}
use Rattle.heap.specs.declared.value.Value.{Value}
use Rattle.heap.specs.declared.value.Value.TheVariants as value
use Rattle.jinja.specs.declared.answer.Phase.TheVariants.{Running, Finished}
use Rattle.jinja.specs.declared.answer.Outcome.TheVariants.{Nothing, Returned}
use Rattle.worked.specs.Standing.{refused, accepted, Run, Example, Stands}
use Rattle.worked.specs.Programs.{adds, wraps, calls_itself, mixes_cell, mixes_register, adding_rows, calling_rows, mixing_rows}

-- method 7 of class 4 finishes after so many steps: the next one answers 1
abbrev finishes : List Value → ℕ → Value → Run
finishes arguments steps v = record { class = 4; name = 7; arguments = arguments; steps = steps; next = 1; phase = Finished; outcome = Returned v }

-- what the reader refuses leaves no program
abbrev unread : List ℕ → ℕ → ℕ → Example
unread file number place = record { file = file; program = []; verdict = refused number place; runs = [] }

abbrev adding_file : List ℕ
adding_file = 1 ∷ 0 ∷ 0 ∷ 1 ∷ 7 ∷ 0 ∷ 2 ∷ 2 ∷ 0 ∷ 4 ∷ 2 ∷ 3 ∷ 4 ∷ 2 ∷ 3 ∷ 6 ∷ 10 ∷ 9 ∷ 0 ∷ []

-- four steps, then finished with 5
abbrev pub adds_two_numbers : Example
adds_two_numbers = record {
  file = adding_file;
  program = adds 2;
  verdict = accepted (adding_rows ∷ []);
  runs = finishes [] 4 (value.Int (pos 5)) ∷ [];
}

-- byte 7, the greatest height, is 1: the second number finds no room
abbrev pub stack_too_low : Example
stack_too_low = record {
  file = slice_set adding_file 7 1;
  program = adds 1;
  verdict = refused 11 0;
  runs = [];
}

-- the last byte is gone
abbrev pub cut : Example
cut = unread (take 18 adding_file) 1 18

-- a byte stands behind the file
abbrev pub left_over : Example
left_over = unread (adding_file ++ 0 ∷ []) 9 19

-- byte 9, the count of instructions, stands in two groups, of which the last is 0
abbrev pub padded : Example
padded = unread (take 9 adding_file ++ (132 ∷ 0 ∷ drop 10 adding_file)) 2 9

-- no class
abbrev pub empty : Example
empty = record {
  file = 0 ∷ [];
  program = [];
  verdict = accepted [];
  runs = [];
}

-- an Integer and Null meet in a stack cell, which cannot be unusable
abbrev pub mixed_stack_cell : Example
mixed_stack_cell = record {
  file = 1 ∷ 0 ∷ 0 ∷ 1 ∷ 7 ∷ 1 ∷ 1 ∷ 0 ∷ 1 ∷ 1 ∷ 8 ∷ 0 ∷ 1 ∷ 12 ∷ 6 ∷ 2 ∷ 3 ∷ 10 ∷ 13 ∷ 4 ∷ 2 ∷ 1 ∷ 1 ∷ 2 ∷ 2 ∷ 0 ∷ 9 ∷ 0 ∷ [];
  program = mixes_cell;
  verdict = refused 11 0;
  runs = [];
}

-- an Integer and Null meet in register 2, which is unusable from there
abbrev pub unusable_register : Example
unusable_register = record {
  file = 1 ∷ 0 ∷ 0 ∷ 1 ∷ 7 ∷ 1 ∷ 1 ∷ 0 ∷ 1 ∷ 1 ∷ 9 ∷ 0 ∷ 1 ∷ 12 ∷ 8 ∷ 2 ∷ 3 ∷ 10 ∷ 1 ∷ 2 ∷ 13 ∷ 6 ∷ 2 ∷ 1 ∷ 1 ∷ 2 ∷ 2 ∷ 0 ∷ 9 ∷ 0 ∷ [];
  program = mixes_register;
  verdict = accepted (mixing_rows ∷ []);
  runs = finishes (value.Bool true ∷ []) 7 value.Unit ∷ finishes (value.Bool false ∷ []) 6 value.Unit ∷ [];
}

-- 2,147,483,647 and 1 come to the least Integer
abbrev pub sum_wraps : Example
sum_wraps = record {
  file = 1 ∷ 0 ∷ 0 ∷ 1 ∷ 7 ∷ 0 ∷ 2 ∷ 2 ∷ 0 ∷ 4 ∷ 2 ∷ 3 ∷ 254 ∷ 255 ∷ 255 ∷ 255 ∷ 15 ∷ 2 ∷ 3 ∷ 2 ∷ 10 ∷ 9 ∷ 0 ∷ [];
  program = wraps;
  verdict = accepted (adding_rows ∷ []);
  runs = finishes [] 4 (value.Int (negsuc 2147483647)) ∷ [];
}

-- step 64 finds 32 frames standing and answers 3; the run is not over
abbrev pub frames_full : Example
frames_full = record {
  file = 1 ∷ 0 ∷ 0 ∷ 1 ∷ 7 ∷ 0 ∷ 2 ∷ 1 ∷ 0 ∷ 3 ∷ 0 ∷ 0 ∷ 8 ∷ 7 ∷ 0 ∷ 9 ∷ 0 ∷ [];
  program = calls_itself;
  verdict = accepted (calling_rows ∷ []);
  runs = record { class = 4; name = 7; arguments = []; steps = 63; next = 3; phase = Running; outcome = Nothing } ∷ [];
}

abbrev pub table_of_examples : List Example
table_of_examples =
    adds_two_numbers ∷ stack_too_low ∷ cut ∷ left_over ∷ padded ∷ empty ∷ mixed_stack_cell ∷ unusable_register ∷ sum_wraps ∷ frames_full ∷ []

-- loading and running each comes to what the table says
abbrev pub ExamplesStand : Type 0
ExamplesStand = AllByRecursion Stands table_of_examples
