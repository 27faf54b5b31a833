-- i2cdetect: its lines, and the list of the buses (i2c-tools, i2cdetect(8)).
use Rattle.std.specs.Prelude.{ℕ, ◌+◌, ◌^◌, ◌<◌, ◌≤◌, ◌==◌, nat_le, ◌||◌, List, ◌++◌, map, Option, Some, None, option_and_then, Result, Ok, Err, codes, refl, if◌then◌else◌}
use Rattle.std.specs.Option.{option_map}
use Rattle.std.specs.Fmt.{decimal}
use Rattle.std.specs.List.{range_with_len}
use Rattle.i2c_base.specs.Board.{BoardView}
use Rattle.i2c_base.specs.Limits.{FIRST_ADDRESS, LAST_ADDRESS}
use Rattle.i2c_spec.specs.Tree.{buses, over}
use Rattle.tools.specs.Grammars.{Class, Grammar, ends, word, word_or, class, maybe}
use Rattle.tools.specs.LineSets.{Word}
use Rattle.tools.specs.Numbers.{number_in}
use Rattle.tools.specs.Options.{bus_number}
use Rattle.tools.specs.Readers.{is_at}
use Rattle.tools.specs.declared.command.Cmd.{Cmd}
use Rattle.tools.specs.declared.command.Cmd.TheVariants.{Tool}
use Rattle.tools.specs.declared.command.ToolCmd.TheVariants as tool
use Rattle.tools.specs.declared.command.detect.Detect.{Detect}
use Rattle.tools.specs.declared.command.detect.Probe.{Probe}
use Rattle.tools.specs.declared.command.detect.Probe.TheVariants as probe

-- ---- i2cdetect -l, and i2cdetect [-q or -r] -y BUS [FIRST LAST]

-- FIRST, and LAST, which isn't below it
abbrev pub first_word : Class ℕ
first_word = record { of = number_in 0 127; sample = codes "0"; means = 0; fits = refl }

abbrev pub from_first : (first last : ℕ) → Option ℕ
from_first first last = if (last == 127) || nat_le first last then Some last else None

abbrev pub last_word : (first : ℕ) → Class ℕ
last_word first =
    record { of = λ w. option_and_then (from_first first) (number_in 0 127 w); sample = codes "127"; means = 127; fits = refl }

-- `-q`, `-r` or none of them, and `-y`, in any order, and what follows them
unfoldable pub probe_and_yes : {A : Type 0} → (Probe → Grammar A) → Grammar A
probe_and_yes k =
    word_or (codes "-q") (word (codes "-y") (k probe.Quick))
    (word_or (codes "-r") (word (codes "-y") (k probe.Receive))
    (word (codes "-y") (word_or (codes "-q") (k probe.Quick) (word_or (codes "-r") (k probe.Receive) (k probe.ByAddress)))))

-- `-y` stands at i, and the probe is known
abbrev pub probe_yes_at : Probe → List Word → ℕ → Result (Probe × ℕ) ℕ
probe_yes_at p ws i = if is_at (codes "-y") ws i then Ok (p, i + 1) else Err i

-- the probe that `-q` or `-r` at i names, after `-y`
abbrev pub yes_probe_at : List Word → ℕ → Probe × ℕ
yes_probe_at ws i =
    if is_at (codes "-q") ws i then (probe.Quick, i + 1)
    else if is_at (codes "-r") ws i then (probe.Receive, i + 1)
    else (probe.ByAddress, i)

-- the probe that the options at i and after it name, and the place after them
unfoldable pub probe_and_yes_at : List Word → ℕ → Result (Probe × ℕ) ℕ
probe_and_yes_at ws i =
    if is_at (codes "-q") ws i then probe_yes_at probe.Quick ws (i + 1)
    else if is_at (codes "-r") ws i then probe_yes_at probe.Receive ws (i + 1)
    else if is_at (codes "-y") ws i then Ok (yes_probe_at ws (i + 1))
    else Err i

-- the command of a line
abbrev pub detected : Probe → (bus first last : ℕ) → Cmd
detected p bus first last = Tool (tool.Detect (record { bus = bus; probe = p; first = first; last = last }))

-- FIRST LAST, if any; without them all addresses that a target may have
unfoldable pub detect_range : Probe → (bus : ℕ) → Grammar Cmd
detect_range p bus =
    maybe (detected p bus FIRST_ADDRESS LAST_ADDRESS)
    (class first_word (λ first. class (last_word first) (λ last. ends (detected p bus first last))))

-- BUS, and what follows it
unfoldable pub detect_bus : Probe → Grammar Cmd
detect_bus p = class bus_number (detect_range p)

-- what follows the first word
unfoldable pub detect_words : Grammar Cmd
detect_words = word_or (codes "-l") (ends (Tool tool.List)) (probe_and_yes detect_bus)

-- each field of the command is in its range
pub record IsDetectInRange (d : Detect) : Type 0 where
  pub bus : d.bus < 2 ^ 16
  pub order : d.first ≤ d.last
  pub last : d.last ≤ 127

-- ---- the list of the buses

-- what stands behind the name of a bus: that it is a root, or the mux over it and the channel of that
abbrev pub way_text : Option (ℕ × ℕ) → List ℕ
way_text None = codes " root"
way_text (Some h) = codes " mux " ++ (decimal h.0 ++ (codes " channel " ++ decimal h.1))

-- the line of a bus, and those of all buses by their numbers
abbrev pub bus_line : BoardView → ℕ → List ℕ
bus_line b bus = codes "i2c-" ++ (decimal bus ++ way_text (option_map (λ h. (h.mux, h.channel)) (over b bus)))

abbrev pub bus_lines : BoardView → List (List ℕ)
bus_lines b = map (bus_line b) (range_with_len 0 (buses b))
