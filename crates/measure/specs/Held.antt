-- The setting that the struct of `measure` stands for.
use Rattle.model.specs.Classes as classes
use Rattle.measure.specs.declared.arrays.Setting.{Setting}
use Rattle.measure.specs.Arrays.{intervals_of, setting_from}

-- with the table, the lengths and the grams
abbrev pub as_setting : Setting → classes.Setting
as_setting h = setting_from h.order.count (intervals_of h.instants) h.active h.lens h.grams
