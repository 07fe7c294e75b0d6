-- The text of a generated load.
use Rattle.std.specs.Prelude.{◌++◌, ℕ, List, codes, decimal, encode_utf8}
use Rattle.std.specs.List.{flat_map}

-- characters in UTF-8
abbrev pub utf8 : List ℕ → List ℕ
utf8 characters = flat_map encode_utf8 characters

-- user 1001 gives the numbers from 1 to n, ten at a time, and user 1002 adds them
abbrev pub load_text : ℕ → List ℕ
load_text n =
    utf8 (codes "user 1001\n|∇SEND N;I\n|I←0\n|A:→(I≥N)/0\n|X←I+⍳10⌊N-I\n|I←I+10\n|→A\n|∇\n|1002 ⎕SVO 'X'\n|1 1 1 1 ⎕SVC 'X'\n|SEND ")
    ++ decimal n
    ++ utf8 (codes "\n|X←⍳0\nuser 1002\n|∇R←GET;V\n|R←0\n|A:V←X\n|→(0=⍴V)/0\n|R←R+(+/V)\n|→A\n|∇\n|1001 ⎕SVO 'X'\n|1 1 1 1 ⎕SVC 'X'\n|GET\nend\n")
